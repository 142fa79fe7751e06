-- Rules 1 to 3 keep all tokens other than white space, line ends, joins and faults, in their order.
use Rattle.std.proofs.Common.{rules}
use Rattle.std.proofs.lemmas.Bool.Decides.{nat_tests}
use Rattle.std.proofs.Common.{arith}
use Rattle.std.proofs.Common.{◌≡◌, ℕ, Bool, false, if◌then◌else◌, Option, None}
use Rattle.std.proofs.Common.{List, [], ◌∷◌, ◌++◌, flat_map, refl}
use Rattle.std.proofs.lemmas.Grind.{flat_map-append}
use Rattle.tangle_lexer.specs.declared.tokens.Token.{Token}
use Rattle.tangle_lexer.specs.declared.tokens.Token.TheVariants as token
use Rattle.tangle_scan.specs.Rules.{clean_tokens}
use Rattle.tangle_scan.specs.Rules.{with_spaces}
use Rattle.tangle_scan.specs.Rules.{with_name_space, is_gap, without_joins, part_tokens}
use Rattle.tangle_scan.specs.Rules.{blanks}
use Rattle.tangle_scan.specs.Rules.{macro_blanks, without_front_gaps, macro_tokens}

-- a token that the rules keep, as a list
abbrev pub keep : Token → List Token
keep (token.Fault kind line) = []
keep e = if is_gap e then [] else e ∷ []

abbrev pub kept : List Token → List Token
kept es = flat_map keep es

white-kept : (b : Bool) (es : List Token) → kept ((if b then token.White ∷ [] else []) ++ es) ≡ kept es
white-kept x es = grind arith

clean-kept : (es : List Token) → kept (clean_tokens es) ≡ kept es
clean-kept [] = refl
clean-kept (e ∷ es) = search (rules, clean-kept es)

with_spaces-kept : (texts : List (List ℕ)) (es : List Token) → kept (with_spaces texts es) ≡ kept es
with_spaces-kept texts [] = refl
with_spaces-kept texts (e ∷ []) = refl
with_spaces-kept texts (e ∷ f ∷ es) = search (rules, white-kept, with_spaces-kept texts (f ∷ es))

with_name_space-kept : (texts : List (List ℕ)) (es : List Token) → kept (with_name_space texts es) ≡ kept es
with_name_space-kept texts [] = refl
with_name_space-kept texts (e ∷ es) = grind (arith, with_name_space-kept texts es)

-- `run` is the part of the first run that is before the tokens
without_joins-kept : (run es : List Token) → kept run ≡ [] → kept (without_joins run es) ≡ kept es
without_joins-kept run [] none = grind arith
without_joins-kept run (e ∷ es) none =
    grind (arith, nat_tests, flat_map-append, without_joins-kept (run ++ e ∷ []) es, without_joins-kept [] es refl)

blanks-kept : (texts : List (List ℕ)) (before : Option Token) (white : Bool) (es : List Token)
    → kept (blanks texts before white es) ≡ kept es
blanks-kept texts before white [] = grind arith
blanks-kept texts before white (e ∷ es) =
    search (rules, white-kept, λ (b : Option Token) (w : Bool). blanks-kept texts b w es)

pub macro_blanks-kept : (texts : List (List ℕ)) (in_name : Bool) (before : Option Token) (white : Bool) (es : List Token)
    → kept (macro_blanks texts in_name before white es) ≡ kept es
macro_blanks-kept texts in_name before white [] = refl
macro_blanks-kept texts in_name before white (e ∷ es) =
    search (rules, white-kept, λ (n : Bool) (b : Option Token) (w : Bool). macro_blanks-kept texts n b w es)

without_front-kept : (es : List Token) → kept (without_front_gaps es) ≡ kept es
without_front-kept [] = refl
without_front-kept (e ∷ es) = search (rules, without_front-kept es)

-- the tokens of a C part after rules 1 to 3
pub part-kept : (texts : List (List ℕ)) (es : List Token) → kept (blanks texts None false (part_tokens texts es)) ≡ kept es
part-kept texts es = grind (arith, nat_tests, blanks-kept, without_joins-kept, with_spaces-kept, clean-kept)

-- the tokens of a macro after rules 1 and 2
pub macro-kept : (texts : List (List ℕ)) (es : List Token) → kept (macro_tokens texts es) ≡ kept es
macro-kept texts es =
    search (rules, without_joins-kept, with_name_space-kept, with_spaces-kept, without_front-kept, clean-kept)
