use Rattle.std.proofs.Common.{arith}
use Rattle.std.proofs.Common.{◌≡◌, ℕ, Bool, true, false, ◌||◌, List, [], ◌∷◌, ◌++◌}
use Rattle.std.proofs.Common.{◌&&◌, not, Option, Some, is_some, if◌then◌else◌}
use Rattle.tangle_faults.specs.declared.faults.FaultKind.{FaultKind}
use Rattle.tangle_lexer.specs.declared.tokens.Token.{Token}
use Rattle.tangle_lexer.specs.declared.tokens.Token.TheVariants as token
use Rattle.tangle_scan.specs.Rules.{has_join, is_front_gap}
use Rattle.tangle_lexer.specs.LinesOfParts.{is_join}
use Rattle.tangle_scan.specs.Rules.{blanks, is_name_part, macro_blanks}
pub use Rattle.tangle_scan.specs.Passes.{is_solid}

pub solid : (e : Token) → (e ≡ token.White → ⊥) → ((line : ℕ) → e ≡ token.LineEnd line → ⊥) →
    ((line : ℕ) → e ≡ token.InnerLineEnd line → ⊥) → (e ≡ token.Join → ⊥)
    → ((kind : FaultKind) (line : ℕ) → e ≡ token.Fault kind line → ⊥) → is_solid e ≡ true
solid x white end inner join fault = grind arith

-- a token other than white space and a line end, and rule 3 at such a token, in a C part and in a macro

pub blanks-item : (texts : List (List ℕ)) (before : Option Token) (white : Bool) (e : Token) (es : List Token)
    → is_front_gap e ≡ false
    → blanks texts before white (e ∷ es)
    ≡ (if is_some before && white then token.White ∷ [] else []) ++ e ∷ blanks texts (Some e) false es
blanks-item texts before white x es item = grind arith

pub macro_blanks-item : (texts : List (List ℕ)) (in_name : Bool) (before : Option Token) (white : Bool) (e : Token)
    (es : List Token) → is_front_gap e ≡ false
    → macro_blanks texts in_name before white (e ∷ es)
    ≡ (if is_some before && white then token.White ∷ [] else [])
    ++ e ∷ macro_blanks texts (in_name && not white && is_name_part e) (Some e) false es
macro_blanks-item texts in_name before white x es item = grind arith

-- rule 2 at a gap and at another token

pub has_join-push : (run : List Token) (e : Token) → has_join (run ++ e ∷ []) ≡ (has_join run || is_join e)
has_join-push [] x = grind arith
has_join-push (x ∷ es) e = grind (arith, has_join-push es e)
