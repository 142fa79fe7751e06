-- Words and white space, which end in their line.
use Rattle.std.proofs.Common.{rules}
use Rattle.std.proofs.lemmas.Bool.Decides.{nat_tests}
use Rattle.std.proofs.Common.{◌≡◌, ℕ, ◌+◌, ◌≤◌, true, zero, suc, Bool, false, not, List, [], ◌∷◌, ◌++◌, Option}
use Rattle.std.proofs.Common.{Some, None, length, take, drop, refl, ap, arith, drop-drop, length-drop}
use Rattle.std.specs.List.{prefix_len}
use Rattle.std.proofs.Math.Numerals.{one-add}
use Rattle.tangle_lines.specs.Bytes.{is_white}
use Rattle.tangle_lines.specs.Reading.{SourceLine}
use Rattle.tangle_text.specs.declared.regions.Region.{Region}
use Rattle.tangle_text.specs.declared.regions.Region.TheVariants as region
use Rattle.tangle_text.specs.declared.regions.Unit.TheVariants as unit
use Rattle.tangle_text.specs.Bytes.{is_word_byte}
use Rattle.tangle_text.specs.Text.{Cell, line_text, byte_at, bytes_of}
use Rattle.tangle_text.specs.Regions.{unit_of, unit_by, count_before}
use Rattle.tangle_text.specs.Ahead.{rest_of}
use Rattle.tangle_text.proofs.UnitLemmas.{counted, count-is}

-- a loop over a line has come from a column to another, and a run of this size is counted from there
pub record HasComeTo (size : List ℕ → ℕ) (bytes : List ℕ) (from end : ℕ) : Type 0 where
  pub same : end + size (drop end bytes) ≡ from + size (drop from bytes)
  pub inside : end ≤ length bytes

-- a run is one by a stricter test, and the run after it
pub prefix-more : (strict test : ℕ → Bool) → ((b : ℕ) → strict b ≡ true → test b ≡ true) → (bs : List ℕ)
    → prefix_len test bs ≡ prefix_len strict bs + prefix_len test (drop (prefix_len strict bs) bs)
prefix-more strict test passes [] = refl
prefix-more strict test passes (b ∷ bs) =
    grind (arith, passes b, one-add (prefix_len strict bs), prefix-more strict test passes bs)

-- the region is a run of bytes that pass a test, and ends at a line end
pub record IsRunOf (r : Region) (test : ℕ → Bool) : Type 0 where
  pub ends : (x : Option ℕ) → unit_of r None x ≡ unit.Stop
  pub is : (b : ℕ) (x : Option ℕ) → unit_of r (Some b) x ≡ unit_by (not (test b)) false

pub word-run : IsRunOf region.Word is_word_byte
word-run = record { ends = λ x. refl; is = λ b x. refl }

pub white-run : IsRunOf region.White is_white
white-run = record { ends = λ x. refl; is = λ b x. refl }

pub counted-run : (r : Region) (test : ℕ → Bool) → IsRunOf r test → (line column : ℕ) (bytes : List ℕ) (rest : List Cell) →
    counted r 0 (line_text line column bytes ++ rest) ≡ prefix_len test bytes
counted-run r test run line column [] rest = rw (run.ends (byte_at 0 rest)) refl
counted-run r test run line column (b ∷ bs) rest = grind (arith, counted-run r test run line (column + 1) bs rest)

-- the number of cells of a run
pub count-run : (r : Region) (test : ℕ → Bool)
    → IsRunOf r test → (lines : List SourceLine) (bytes : List ℕ) (line column : ℕ)
    → count_before r (rest_of lines bytes line column false) ≡ prefix_len test (drop column bytes)
count-run r test run lines bytes line column = grind (arith, nat_tests, count-is, counted-run)

-- the text after `n` bytes of a line
drop-line : (line column n : ℕ) (bytes : List ℕ) (rest : List Cell) → n ≤ length bytes →
    drop n (line_text line column bytes ++ rest) ≡ line_text line (column + n) (drop n bytes) ++ rest
drop-line line column zero bytes rest h = ap (λ k. line_text line k bytes ++ rest) (omega arith)
drop-line line column (suc n) [] rest h = absurd (omega arith)
drop-line line column (suc n) (b ∷ bs) rest h = grind (arith, nat_tests, drop-line line (column + 1) n bs rest)

bytes-line : (line column n : ℕ) (bytes : List ℕ) (rest : List Cell) → n ≤ length bytes →
    bytes_of (take n (line_text line column bytes ++ rest)) ≡ take n bytes
bytes-line line column zero bytes rest h = refl
bytes-line line column (suc n) [] rest h = absurd (omega arith)
bytes-line line column (suc n) (b ∷ bs) rest h = grind (arith, nat_tests, bytes-line line (column + 1) n bs rest)

-- the text ahead of a position that is `n` bytes further on the line
pub rest_of-further : (lines : List SourceLine) (bytes : List ℕ) (line column n : ℕ) (done : Bool)
    → column + n ≤ length bytes
    → rest_of lines bytes line (column + n) done ≡ drop n (rest_of lines bytes line column done)
rest_of-further lines bytes line column n done h = search (rules, drop-line, length-drop, drop-drop)

-- the bytes of a run
pub run-bytes : (lines : List SourceLine) (bytes : List ℕ) (line column n : ℕ) → column + n ≤ length bytes →
    bytes_of (take n (rest_of lines bytes line column false)) ≡ take n (drop column bytes)
run-bytes lines bytes line column n h = grind (arith, nat_tests, bytes-line, length-drop)
