-- Items that stand together are read together: the groups of items of a macro or a piece.
use Rattle.std.specs.Prelude.{if◌then◌else◌, ℕ, List, [], ◌∷◌, ◌++◌, flat_map}
use Rattle.tangle_lexer.specs.declared.tokens.Token.{Token}
use Rattle.tangle_scan.specs.Rules.{is_front_gap}
use Rattle.tangle_scan.specs.ReadAsMeant.{token_bytes}

-- a group of items, and the tokens after it
pub record Group : Type 0 where
  pub items : List Token
  pub rest : List Token

-- a group of these items, if there are any
abbrev pub group_before : List Token → List Token → List Group
group_before rest [] = []
group_before rest (e ∷ items) = record { items = e ∷ items; rest = rest } ∷ []

-- The groups of these tokens: white space and line ends are between them. `items` are those of the
-- first group before these tokens.
abbrev pub groups_after : List Token → List Token → List Group
groups_after items [] = group_before [] items
groups_after items (e ∷ es) =
    if is_front_gap e then group_before (e ∷ es) items ++ groups_after [] es
    else groups_after (items ++ e ∷ []) es

abbrev pub groups : List Token → List Group
groups es = groups_after [] es

-- what is written for the items of a group
abbrev pub group_text : List (List ℕ) → List Token → List ℕ
group_text texts items = flat_map (token_bytes texts (λ e. [])) items
