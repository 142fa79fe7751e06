-- An ASCII constant is on one line, and has no apostrophe before its last byte, except for one that a backslash escapes.
use Rattle.std.proofs.lemmas.List.{drop-drop}
use Rattle.std.proofs.Common.{rules}
use Rattle.std.proofs.lemmas.Bool.Decides.{nat_tests}
use Rattle.std.proofs.Common.{◌≡◌, ◌<◌, ◌≤◌, ℕ, ◌+◌, ◌-◌, Bool, true, ◌==◌, List, ◌∷◌, drop}
use Rattle.std.proofs.Common.{Option, Some, None, refl, ap, sym, ◌∙◌, arith}
use Rattle.std.proofs.lemmas.Bool.{cond_both}
use Rattle.tangle_lines.specs.Bytes.{at_sign}
use Rattle.tangle_text.specs.declared.regions.Region.TheVariants as region
use Rattle.tangle_text.specs.Bytes.{backslash, apostrophe, holds, is_octal}
use Rattle.tangle_text.specs.Text.{Cell, byte_at}
use Rattle.tangle_text.proofs.AheadLemmas.{byte_at-drop}
use Rattle.tangle_lexer.specs.declared.modes.LexerState.{LexerState}
use Rattle.tangle_lexer.specs.declared.constants.AsciiConstant.{AsciiConstant}
use Rattle.tangle_lexer.specs.Constants.{escape_value, escaped_constant, constant_by}
use Rattle.tangle_lexer.specs.Constants.{constant_at, constant_lexeme, ascii_constant}
use Rattle.tangle_lexer.specs.Quoted.{one_if}
use Rattle.tangle_lexer.proofs.laws.Points.{Point, IsByte, HoldsBytes, IsTextAt}
use Rattle.tangle_lexer.proofs.laws.RegionOrder.{more-bytes, lexeme-line}
use Rattle.tangle_lexer.proofs.laws.TokenOrder.{text-later}
use Rattle.tangle_lexer.proofs.laws.RegionUnits.{units-by}
use Rattle.tangle_lexer.proofs.laws.WhiteOrder.{bad_constant-bytes, LexemeIsInOrder}

-- an apostrophe at position `j` is possible only directly after a backslash at the front
abbrev IsEscaped : ℕ → List Cell → Type 0
IsEscaped j text = holds apostrophe (byte_at j text) ≡ true → (j ≡ 1) × (holds backslash (byte_at 0 text) ≡ true)

-- the cells of the character of a constant, and the apostrophe after it
abbrev IsClosed : List Cell → Option AsciiConstant → Type 0
IsClosed text None = Unit {0}
IsClosed text (Some k) = HoldsBytes (k.count + 1) text × ((j : ℕ) → j < k.count → IsEscaped j text)

escaped-closed : (text : List Cell) → holds backslash (byte_at 0 text) ≡ true → IsClosed text (escaped_constant text)
escaped-closed text h =
    cond_both (is_octal (byte_at 1 text)) _ _ (IsClosed text) (grind arith) (search rules)
  where
    byte : (b : Option ℕ) (x : ℕ) → escape_value b ≡ Some x → IsByte b
    byte y x e = search rules

constant-closed : (b : Option ℕ) (text : List Cell) → byte_at 0 text ≡ b → IsClosed text (constant_by b text)
constant-closed None text e = tt
constant-closed (Some b) text e =
    cond_both (b == at_sign) _ _ (IsClosed text) (λ i. (grind (arith, nat_tests, more-bytes, byte_at-drop)))
    (λ i. cond_both (b == backslash) _ _ (IsClosed text) (λ j. escaped-closed text (ap (holds backslash) e ∙ j))
    (search rules))

-- a bad constant has no apostrophe before its last byte
abbrev HasNoQuote : ℕ → List Cell → Type 0
HasNoQuote n text = (j : ℕ) → j < n → holds apostrophe (byte_at j text) ≡ true → ⊥

one_if-few : (b : Bool) → one_if b ≤ 1
one_if-few b = grind arith

pub ascii_constant-quotes : (s : LexerState) (text : List Cell) (k : ℕ)
    → 2 ≤ k → k + 1 < 1 + (ascii_constant s text).more → holds apostrophe (byte_at k text) ≡ true
    → (k ≡ 3) × (holds backslash (byte_at 2 text) ≡ true)
ascii_constant-quotes s text k first last quote =
    let here : byte_at k text ≡ byte_at (k - 2) (drop 2 text) = grind (arith, byte_at-drop k text, byte_at-drop (k - 2) (drop 2 text), drop-drop (k - 2) 2 text) in
    by (constant_at (drop 2 text)) (constant-closed (byte_at 0 (drop 2 text)) (drop 2 text) refl) last (ap (holds apostrophe) (sym here) ∙ quote)
  where
    by : (c : Option AsciiConstant) → IsClosed (drop 2 text) c → k + 1 < 1 + (constant_lexeme c s text).more
        → holds apostrophe (byte_at (k - 2) (drop 2 text)) ≡ true
        → (k ≡ 3) × (holds backslash (byte_at 2 text) ≡ true)
    by None h last here = search (rules, one_if-few, nat_tests, units-by region.BadConstant HasNoQuote)
    by (Some c) h last here = search rules

pub ascii_constant-bytes : (s : LexerState) (text : List Cell)
    → HoldsBytes 2 text → HoldsBytes (1 + (ascii_constant s text).more) text
ascii_constant-bytes s text h =
    by (constant_at (drop 2 text)) (constant-closed (byte_at 0 (drop 2 text)) (drop 2 text) refl)
  where
    by : (k : Option AsciiConstant) → IsClosed (drop 2 text) k → HoldsBytes (1 + (constant_lexeme k s text).more) text
    by None closed = search (rules, bad_constant-bytes)
    by (Some k) closed = search rules

module _ (texts : List (List ℕ)) where
  pub ascii_constant-in_order : (s : LexerState) (at : Point) (c : Cell) (cs : List Cell)
      → IsTextAt texts at (c ∷ cs) → HoldsBytes 2 (c ∷ cs)
      → LexemeIsInOrder texts at.line c cs (ascii_constant s (c ∷ cs))
  ascii_constant-in_order s at c cs is h p reached =
      grind (arith, ascii_constant-bytes s (c ∷ cs) h, lexeme-line texts, text-later texts)
