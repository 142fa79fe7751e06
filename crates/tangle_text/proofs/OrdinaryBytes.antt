-- Ordinary bytes, which have no meaning, are skipped one by one.
use Rattle.std.proofs.lemmas.Bool.Decides.{nat_tests}
use Rattle.std.proofs.Math.Numerals.{one-add}
use Rattle.std.proofs.Common.{◌≡◌, ℕ, ◌+◌, zero, suc, true, List, [], ◌∷◌, ◌++◌}
use Rattle.std.proofs.Common.{drop, refl, arith}
use Rattle.std.specs.List.{prefix_len}
use Rattle.tangle_text.specs.declared.regions.Region.{Region}
use Rattle.tangle_text.specs.Text.{Cell, line_text}
use Rattle.tangle_text.specs.Regions.{region_end, is_ordinary, AreOrdinary, skips_ordinary}
use Rattle.tangle_text.proofs.RegionLemmas.{region_end-one}

pub region_end-ordinary : (r : Region) → skips_ordinary r ≡ true → (n : ℕ) (text : List Cell)
    → AreOrdinary n text → region_end r (drop n text) ≡ region_end r text
region_end-ordinary r is zero text h = refl
region_end-ordinary r is (suc n) [] h = refl
region_end-ordinary r is (suc n) (c ∷ cs) h =
    grind (arith, nat_tests, region_end-ordinary r is n cs h.1, region_end-one r)

-- the run of ordinary bytes in a line
pub run-ordinary : (line column : ℕ) (bytes : List ℕ) (rest : List Cell)
    → AreOrdinary (prefix_len is_ordinary bytes) (line_text line column bytes ++ rest)
run-ordinary line column [] rest = tt
run-ordinary line column (b ∷ bs) rest =
    grind (arith, nat_tests, one-add (prefix_len is_ordinary bs), run-ordinary line (column + 1) bs rest)
