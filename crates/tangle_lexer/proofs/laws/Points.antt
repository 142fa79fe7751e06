-- Points of the text, and the point after a cell. `texts` are the bytes of the source lines.
use Rattle.std.proofs.Common.{rules}
use Rattle.std.proofs.lemmas.Bool.Decides.{nat_tests}
use Rattle.std.proofs.Common.{◌≡◌, ℕ, zero, suc, ◌+◌, ◌<◌, ◌≤◌, List, [], ◌∷◌, ◌++◌, length, get_or, drop, Option, Some}
use Rattle.std.proofs.Common.{◌==◌}
use Rattle.tangle_text.specs.Bytes.{holds}
use Rattle.std.proofs.Common.{None, refl, ap, sym, ◌∙◌, arith, subst, add-zero, drop-drop, slice_get}
use Rattle.std.proofs.lemmas.List.{length-map, length-drop, get_or-drop}
use Rattle.std.proofs.Math.Seq.{drop-cons}
use Rattle.std.proofs.Math.ListN.{drop_of_length-le}
use Rattle.std.proofs.lemmas.Option.{get_or_from_slice_get, slice_get_cases}
use Rattle.tangle_text.proofs.RunPartLemmas.{get_drop}
use Rattle.tangle_lines.specs.Reading.{SourceLine}
use Rattle.tangle_text.specs.Text.{Cell, front_column, line_text, text_from, texts_of}

-- a line and a column of it, both from 0
pub record Point : Type 0 where
  pub line : ℕ
  pub column : ℕ

abbrev pub point_at : ℕ → ℕ → Point
point_at line column = record { line = line; column = column }

abbrev pub IsByte : Option ℕ → Type 0
IsByte None = ⊥
IsByte (Some b) = Unit {0}

abbrev pub after_by : Option ℕ → Cell → Point
after_by None c = point_at (c.line + 1) 0
after_by (Some b) c = point_at c.line (c.column + 1)

-- the point of the text after a cell
abbrev pub after_cell : Cell → Point
after_cell c = after_by c.byte c

-- this number of cells at the front have bytes
abbrev pub HoldsBytes : ℕ → List Cell → Type 0
HoldsBytes zero text = Unit {0}
HoldsBytes (suc k) [] = ⊥
HoldsBytes (suc k) (c ∷ cs) = IsByte c.byte × HoldsBytes k cs

pub after-byte : (c : Cell) → IsByte c.byte → after_cell c ≡ point_at c.line (c.column + 1)
after-byte c h = grind arith

module _ (texts : List (List ℕ)) where
  -- the byte of the source lines at this point, or 0 at a line end
  abbrev pub source_byte : ℕ → ℕ → ℕ
  source_byte line column = get_or (get_or texts line []) column 0

  -- a cell is at this point, which is inside a line of the source, and has the byte of the source there
  pub record IsCellAt (at : Point) (c : Cell) : Type 0 where
    pub line : c.line ≡ at.line
    pub column : c.column ≡ at.column
    pub inside : at.column ≤ length (get_or texts at.line [])
    pub real : at.line < length texts
    pub byte : c.byte ≡ slice_get (get_or texts at.line []) at.column

  pub source-is : (at : Point) (c : Cell) (b : ℕ) → c.byte ≡ Some b → IsCellAt at c → source_byte c.line c.column ≡ b
  source-is at c b e is =
      rw (is.line, is.column) (get_or_from_slice_get (get_or texts at.line []) at.column b 0 (sym is.byte ∙ e))

  -- a test of the byte of a cell is one of the byte of the source
  pub byte-test : (expected : ℕ) (at : Point) (c : Cell) → IsByte c.byte → IsCellAt at c
      → (source_byte c.line c.column == expected) ≡ holds expected c.byte
  byte-test expected at c h is = grind (arith, slice_get_cases, source-is at c)

  -- the cells follow one another from a point on, up to the end of the source
  abbrev pub IsTextAt : Point → List Cell → Type 0
  IsTextAt at [] = (at.column ≡ 0) × (at.line ≡ length texts)
  IsTextAt at (c ∷ cs) = IsCellAt at c × IsTextAt (after_cell c) cs

  -- the point at which a text begins is inside a line, or at the end
  pub text-within : (at : Point) (text : List Cell) → IsTextAt at text → at.column ≤ length (get_or texts at.line [])
  text-within at [] is = omega arith
  text-within at (c ∷ cs) is = is.0.inside

  pub text-column : (at : Point) (text : List Cell) → IsTextAt at text → front_column text ≡ at.column
  text-column at x is = grind arith

  -- the text after a byte, after `n` bytes, and after any number of cells

  pub text-next : (at : Point) (c : Cell) (cs : List Cell)
      → IsTextAt at (c ∷ cs) → IsByte c.byte → IsTextAt (point_at c.line (c.column + 1)) cs
  text-next at c cs is h = subst (λ p. IsTextAt p cs) (after-byte c h) is.1

  pub text-after : (n : ℕ) (at : Point) (text : List Cell)
      → IsTextAt at text → HoldsBytes n text → IsTextAt (point_at at.line (at.column + n)) (drop n text)
  text-after zero at text is h = subst (λ x. IsTextAt (point_at at.line x) text) (sym (add-zero at.column)) is
  text-after (suc n) at [] is h = absurd h
  text-after (suc n) at (c ∷ cs) is h = grind (arith, nat_tests, text-after n)

  pub text-somewhere : (n : ℕ) (at : Point) (text : List Cell)
      → IsTextAt at text → (p : Point) × IsTextAt p (drop n text)
  text-somewhere zero at text is = (at, is)
  text-somewhere (suc n) at [] is = (at, is)
  text-somewhere (suc n) at (c ∷ cs) is = text-somewhere n (after_cell c) cs is.1

  cell : (line column : ℕ) (bytes : List ℕ) → column ≤ length (get_or texts line []) → line < length texts
      → drop column (get_or texts line []) ≡ bytes
      → IsCellAt (point_at line column) (record { line = line; column = column; byte = slice_get bytes 0 })
  cell line column bytes h real is = search (rules, get_drop)

  line-is : (line column : ℕ) (bytes : List ℕ) (rest : List Cell) → column ≤ length (get_or texts line [])
      → line < length texts → drop column (get_or texts line []) ≡ bytes → IsTextAt (point_at (line + 1) 0) rest
      → IsTextAt (point_at line column) (line_text line column bytes ++ rest)
  line-is line column [] rest h real is next = (cell line column [] h real is, next)
  line-is line column (b ∷ bs) rest h real is next = (
    cell line column (b ∷ bs) h real is,
    line-is line (column + 1) bs rest (omega (arith, ap length is, length-drop column (get_or texts line []))) real
        (sym (drop-drop 1 column (get_or texts line [])) ∙ ap (drop 1) is) next,
  )

  lines-are : (n : ℕ) (lines : List SourceLine) → n + length lines ≡ length texts → drop n texts ≡ texts_of lines
      → IsTextAt (point_at n 0) (text_from n lines)
  lines-are n [] all is = (refl, omega arith)
  lines-are n (l ∷ ls) all is =
      let first : get_or texts (n + 0) [] ≡ l.bytes =
      sym (get_or-drop n texts 0 []) ∙ ap (λ (ts : List (List ℕ)). get_or ts 0 []) is in
      line-is n 0 l.bytes (text_from (n + 1) ls) (omega arith) (omega arith) (rw (add-zero n) at first)
      (lines-are (n + 1) ls (omega arith) (sym (drop-drop 1 n texts) ∙ ap (drop 1) is))

-- the cells of the text of a source follow one another
pub text-is : (lines : List SourceLine) → IsTextAt (texts_of lines) (point_at 0 0) (text_from 0 lines)
text-is lines = lines-are (texts_of lines) 0 lines (omega (arith, length-map lines (λ l. l.bytes))) refl

-- a text begins with the rest of the line from this point on
abbrev pub IsLineAt : List (List ℕ) → Point → List Cell → Type 0
IsLineAt texts at text =
    (rest : List Cell) × (text ≡ line_text at.line at.column (drop at.column (get_or texts at.line [])) ++ rest)

pub line-at : (texts : List (List ℕ)) (at : Point) (text : List Cell) → IsTextAt texts at text → at.line < length texts
    → IsLineAt texts at text
line-at texts at [] is real = absurd (omega arith)
line-at texts at (c ∷ cs) is real = by c.byte refl (line-at texts (after_cell c) cs is.1)
  where
    by : (b : Option ℕ) → c.byte ≡ b → ((after_by b c).line < length texts → IsLineAt texts (after_by b c) cs)
        → IsLineAt texts at (c ∷ cs)
    by None e more = (cs, grind (arith, nat_tests, slice_get_cases, drop_of_length-le, is.0))
    by (Some b) e more =
        let next = more (omega (arith, is.0.line)) in
        (next.0, grind (arith, nat_tests, slice_get_cases, drop-cons, is.0, next.1))
