-- Heads: the tokens that begin a section, a macro or a C part.
use Rattle.std.specs.Prelude.{◌≡◌, Bool, true, false, List, [], ◌∷◌, ◌++◌, Option, None, Some}
use Rattle.std.specs.List.{list_any}
use Rattle.tangle_lexer.specs.declared.tokens.Token.{Token}
use Rattle.tangle_lexer.specs.declared.tokens.Token.TheVariants as token

-- a head ends the macro, C part or documentation before it
abbrev pub is_head : Token → Bool
is_head token.Section = true
is_head (token.MacroStart line) = true
is_head (token.UnnamedPart line) = true
is_head (token.NamedPart line occurrence) = true
is_head _ = false

-- no head is among these tokens
abbrev pub HasNoHead : List Token → Type 0
HasNoHead ts = list_any is_head ts ≡ false

-- the last token is removed and returned if it is a head; otherwise nothing changes
abbrev pub PopsHead : List Token → List Token → Option Token → Type 0
PopsHead old new None =
    (new ≡ old) × ((ts : List Token) (head : Token) → old ≡ ts ++ head ∷ [] → is_head head ≡ false)
PopsHead old new (Some head) = (old ≡ new ++ head ∷ []) × (is_head head ≡ true)
