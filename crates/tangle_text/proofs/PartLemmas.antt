-- The parts of runs: each begins where the one before it ends.
use Rattle.std.proofs.lemmas.Bool.Decides.{nat_tests}
use Rattle.std.proofs.Common.{◌≡◌, ℕ, ◌+◌, ◌<◌, ◌≤◌, zero, suc, Bool, List, [], ◌∷◌, length, take, drop, get_or}
use Rattle.std.proofs.Common.{refl, arith, drop-drop, ◌==◌, ◌&&◌, not}
use Rattle.std.proofs.lemmas.List.{at_drop_more}
use Rattle.tangle_text.specs.Bytes.{backslash}
use Rattle.std.specs.List.{prefix_len}
use Rattle.std.proofs.lemmas.List.Sums.{prefix_len-le-length}
use Rattle.tangle_text.specs.Runs.{quote_size, part_more, part_at, parts_of}

-- a part ends with the bytes

quote-fits : (close : ℕ) (escaped : Bool) (bs : List ℕ) → quote_size close escaped bs ≤ length bs
quote-fits close escaped [] = omega arith
quote-fits close escaped (b ∷ bs) = grind (arith, nat_tests, quote-fits close (b == backslash && not escaped) bs)

pub part-fits : (b : ℕ) (bs : List ℕ) → part_more b bs ≤ length bs
part-fits b bs = grind (arith, nat_tests, prefix_len-le-length, quote-fits)

-- a part that is within the first `n` bytes

prefix-taken : (test : ℕ → Bool) (n : ℕ) (bs : List ℕ)
    → prefix_len test bs ≤ n → prefix_len test (take n bs) ≡ prefix_len test bs
prefix-taken test zero bs h = omega arith
prefix-taken test (suc n) [] h = refl
prefix-taken test (suc n) (b ∷ bs) h = grind (arith, nat_tests, prefix-taken test n bs)

quote-taken : (close : ℕ) (escaped : Bool) (n : ℕ) (bs : List ℕ)
    → quote_size close escaped bs ≤ n → quote_size close escaped (take n bs) ≡ quote_size close escaped bs
quote-taken close escaped zero bs h = omega arith
quote-taken close escaped (suc n) [] h = refl
quote-taken close escaped (suc n) (b ∷ bs) h =
    grind (arith, nat_tests, quote-taken close (b == backslash && not escaped) n bs)

pub part-taken : (b n : ℕ) (bs : List ℕ) → part_more b bs ≤ n → part_more b (take n bs) ≡ part_more b bs
part-taken b n bs h = grind (arith, nat_tests, prefix-taken, quote-taken)

-- the parts after a part that was begun
pub parts-after : (line column k : ℕ) (bs : List ℕ) → parts_of line column k bs ≡ parts_of line (column + k) 0 (drop k bs)
parts-after line column zero bs = grind arith
parts-after line column (suc k) [] = refl
parts-after line column (suc k) (b ∷ bs) = grind (arith, parts-after line (column + 1) k bs)

-- the first of the parts from a column of a line on
pub parts-next : (line column end : ℕ) (bytes : List ℕ) → column < length bytes
    → end ≡ column + 1 + part_more (get_or bytes column 0) (drop (column + 1) bytes)
    → parts_of line column 0 (drop column bytes)
    ≡ part_at line column (1 + part_more (get_or bytes column 0) (drop (column + 1) bytes)) (get_or bytes column 0)
    ∷ parts_of line end 0 (drop end bytes)
parts-next line column end bytes h is =
    let bs : List ℕ = drop (column + 1) bytes in
    let more = parts-after line (column + 1) (part_more (get_or bytes column 0) bs) bs in
    grind (arith, at_drop_more (parts_of line column 0) bytes column 0 h, more, drop-drop)
