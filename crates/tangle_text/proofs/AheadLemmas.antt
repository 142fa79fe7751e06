-- The text ahead at a position of a line.
use Rattle.std.proofs.lemmas.Bool.Decides.{nat_tests}
use Rattle.std.proofs.Common.{◌≡◌, ℕ, ◌+◌, ◌<◌, ◌≤◌, ◌^◌, ◌*◌, suc, Bool, List, [], ◌∷◌, zero}
use Rattle.std.proofs.Common.{false, IsSome, length, get_or, slice_get, drop, refl, arith, drop-cons}
use Rattle.std.specs.List.{All}
use Rattle.std.proofs.Math.ListN.{drop_of_length-le}
use Rattle.std.proofs.lemmas.List.{length-append}
use Rattle.std.proofs.lemmas.List.Elements.{All-head, All-tail}
use Rattle.std.proofs.lemmas.Option.{slice_get-get_or, slice_get_cases, slice_get_past}
use Rattle.tangle_lines.specs.Reading.{SourceLine, IsShort, no_line, source_line_limit}
use Rattle.tangle_text.specs.declared.reader.Reader.TheInside.{Inside}
use Rattle.tangle_text.specs.Text.{line_text, text_from, byte_at, Cell}
use Rattle.tangle_text.specs.Ahead.{rest_of, IsFront}

-- the text of a source is short, since its lines are

length-line_text : (line column : ℕ) (bytes : List ℕ) → length (line_text line column bytes) ≡ length bytes + 1
length-line_text line column [] = refl
length-line_text line column (b ∷ bs) = omega (arith, length-line_text line (column + 1) bs)

length-text_from : (line : ℕ) (ls : List SourceLine) → All IsShort ls → length (text_from line ls) ≤ 65536 * length ls
length-text_from line [] short = omega arith
length-text_from line (l ∷ ls) short =
    let more = length-text_from (line + 1) ls (All-tail IsShort l ls short) in
    grind (arith, length-append, length-line_text, All-head IsShort l ls short, more)

pub text_is_short : (ls : List SourceLine) → length ls ≤ source_line_limit → All IsShort ls
    → length (text_from 0 ls) < 2 ^ 63
text_is_short ls few short = omega (arith, length-text_from 0 ls short)

-- at the beginning of a line
pub text_from-line : (lines : List SourceLine) (n : ℕ) → n < length lines →
    text_from n (drop n lines) ≡ rest_of lines (get_or lines n no_line).bytes n 0 false
text_from-line lines n h = grind (arith, nat_tests, drop-cons)

module _ (lines : List SourceLine) (bytes : List ℕ) (line column : ℕ) where
  -- at a byte
  pub rest_of-byte : column < length bytes → rest_of lines bytes line column false
      ≡ record { line = line; column = column; byte = slice_get bytes column }
      ∷ rest_of lines bytes line (column + 1) false
  rest_of-byte h = grind (arith, nat_tests, drop-cons bytes column 0 h, slice_get-get_or bytes column 0 h)

  -- the first cell at a position of a line
  pub rest_of-cell : rest_of lines bytes line column false
      ≡ record { line = line; column = column; byte = slice_get bytes column }
      ∷ drop 1 (rest_of lines bytes line column false)
  rest_of-cell = grind (arith, nat_tests, slice_get_cases, rest_of-byte, drop_of_length-le bytes)

  -- advancing over a byte
  pub advance-byte : (done : Bool) → column < length bytes
      → rest_of lines bytes line (column + 1) done ≡ drop 1 (rest_of lines bytes line column done)
  advance-byte done h = grind (arith, nat_tests, rest_of-byte)

  -- the front at a line end
  pub front-line_end : (done : Bool) → done ≡ false → length bytes ≤ column
      → IsFront (rest_of lines bytes line column done)
      (record { byte = slice_get bytes column; next = byte_at 0 (text_from (line + 1) (drop (line + 1) lines)) })
  front-line_end done is h = grind (arith, nat_tests, drop_of_length-le bytes, slice_get_past)

-- the front at a byte
pub front-byte : (lines : List SourceLine) (bytes : List ℕ) (line column : ℕ) (done : Bool)
    → done ≡ false → column < length bytes → IsFront (rest_of lines bytes line column done)
    (record { byte = slice_get bytes column; next = slice_get bytes (column + 1) })
front-byte lines bytes line column done is h = grind (arith, nat_tests, rest_of-byte, rest_of-cell)

-- the first byte of a line
pub first_of_line : (lines : List SourceLine) (n : ℕ) → n < length lines
    → byte_at 0 (text_from n (drop n lines)) ≡ slice_get (get_or lines n no_line).bytes 0
first_of_line lines n h = rw (text_from-line lines n h, rest_of-cell lines (get_or lines n no_line).bytes n 0) refl

-- a reader that is at a byte
pub record IsAtByte (r : Inside) (text : List Cell) : Type 0 where
  pub done : r.is_done ≡ false
  pub inside : r.column < length r.bytes.now
  pub ahead : text ≡ record { line = r.line; column = r.column; byte = slice_get r.bytes.now r.column }
      ∷ rest_of r.source.now.lines r.bytes.now r.line (r.column + 1) false

pub at-byte : (r : Inside) (text : List Cell)
    → rest_of r.source.now.lines r.bytes.now r.line r.column r.is_done ≡ text → IsSome (byte_at 0 text)
    → IsAtByte r text
at-byte r text is some = grind (arith, nat_tests, rest_of-byte, drop_of_length-le r.bytes.now)

-- the byte at a distance is the first one after that many cells
pub byte_at-drop : (n : ℕ) (text : List Cell) → byte_at n text ≡ byte_at 0 (drop n text)
byte_at-drop zero text = refl
byte_at-drop (suc n) [] = refl
byte_at-drop (suc n) (c ∷ cs) = byte_at-drop n cs

-- what the functions of the reader take from here
pub ruleset ahead_steps = (nat_tests, rest_of-cell, at-byte, byte_at-drop, advance-byte)
