-- Runs: how many bytes and cells they have.
use Rattle.std.proofs.lemmas.Bool.Decides.{nat_tests}
use Rattle.std.proofs.Common.{◌≡◌, ℕ, ◌+◌, ◌<◌, ◌≤◌, zero, suc, Bool, false, List, [], ◌∷◌, ◌++◌}
use Rattle.std.proofs.Common.{Option, Some, None, ◌||◌, ◌&&◌, ◌==◌, not, if◌then◌else◌, cond, length, drop, get_or, slice_get, refl, ap, arith}
use Rattle.std.proofs.lemmas.List.{at_drop_more, drop_more, get_or_past}
use Rattle.std.proofs.lemmas.Option.{slice_get_cases, slice_get-get_or}
use Rattle.std.proofs.Math.ListN.{drop_of_length-le}
use mir.Val.{bool_byte}
use Rattle.tangle_files.specs.Bytes.{space}
use Rattle.tangle_lines.specs.Reading.{SourceLine}
use Rattle.tangle_text.specs.Text.{Cell, line_text, line_bytes}
use Rattle.tangle_text.specs.Ahead.{rest_of}
use Rattle.tangle_text.specs.Runs.{passing, run_count, run_size, part_more, goes_over, is_plain, begins_single}
use Rattle.tangle_text.specs.Bytes.{holds, asterisk, slash}

line_bytes-line : (line column : ℕ) (bs : List ℕ) (rest : List Cell)
    → line_bytes (line_text line column bs ++ rest) ≡ bs
line_bytes-line line column [] rest = refl
line_bytes-line line column (b ∷ bs) rest = ap (λ l. b ∷ l) (line_bytes-line line (column + 1) bs rest)

pub run_count-line : (line column : ℕ) (bs : List ℕ) (rest : List Cell)
    → run_count (line_text line column bs ++ rest) ≡ run_size 0 bs
run_count-line line column bs rest = ap (run_size 0) (line_bytes-line line column bs rest)

pub run_count-rest : (lines : List SourceLine) (bytes : List ℕ) (line column : ℕ)
    → run_count (rest_of lines bytes line column false) ≡ run_size 0 (drop column bytes)
run_count-rest lines bytes line column = grind (arith, nat_tests, run_count-line)

fits-by : (t : Bool) (n m : ℕ) → n ≤ m → cond t (1 + n) 0 ≤ suc m
fits-by x n m h = grind arith

pub run_size-fits : (k : ℕ) (bs : List ℕ) → run_size k bs ≤ length bs
run_size-fits k [] = omega arith
run_size-fits (suc k) (b ∷ bs) = omega (arith, run_size-fits k bs)
run_size-fits zero (b ∷ bs) =
    fits-by (goes_over b bs) _ (length bs) (run_size-fits (part_more b bs) bs)

pub get_drop : (bytes : List ℕ) (column : ℕ) → slice_get (drop column bytes) 0 ≡ slice_get bytes column
get_drop bytes column = grind (arith, slice_get_cases, drop_more, drop_of_length-le)

-- a run of bytes that pass a test goes over the byte at a column, or ends there
pub passing_step : (test : ℕ → List ℕ → Bool) (bytes : List ℕ) (column : ℕ) → column < length bytes
    → passing test (drop column bytes)
    ≡ cond (test (get_or bytes column 0) (drop (column + 1) bytes)) (1 + passing test (drop (column + 1) bytes)) 0
passing_step test bytes column h = at_drop_more (passing test) bytes column 0 h

-- a plain byte, or a slash that opens no comment, is at a column

abbrev pub single_by : Option ℕ → Option ℕ → Bool
single_by None next = false
single_by (Some b) next = is_plain b || b == slash && not (holds asterisk next || holds slash next)

pub single_at : (bytes : List ℕ) (column : ℕ)
    → begins_single (drop column bytes) ≡ single_by (slice_get bytes column) (slice_get bytes (column + 1))
single_at bytes column =
    grind (arith, nat_tests, slice_get_cases, drop_more, drop_of_length-le, get_drop)

-- a space is at a column
pub blank_at : (bytes : List ℕ) (column : ℕ)
    → bool_byte (holds space (slice_get bytes column)) ≡ (if get_or bytes column 0 == space then 1 else 0)
blank_at bytes column =
    grind (arith, nat_tests, slice_get_cases, slice_get-get_or bytes column 0, get_or_past bytes column 0)
