use Rattle.std.proofs.Common.{rules}
use Rattle.std.proofs.lemmas.Grind.{common_steps}
use Rattle.std.proofs.Common.{◌≡◌, ℕ, zero, suc, ◌-◌, ◌<◌, List, take, drop, min, refl, sym, ap, arith}
use Rattle.std.proofs.lemmas.List.{drop-drop}
use Rattle.std.proofs.lemmas.Slice.{between_is}
use Rattle.tangle_files.proofs.line.Line.slice.Goals as goal

take_of_take : (n m : ℕ) (bytes : List ℕ) → take n (take m bytes) ≡ take (min n m) bytes
take_of_take n m bytes = grind (arith, common_steps)

drop_of_take : (n m : ℕ) (bytes : List ℕ) → drop n (take m bytes) ≡ take (m - n) (drop n bytes)
drop_of_take n m bytes = sym (between_is bytes n m)

-- where bytes are taken, the position is the same
taken_from : (n i k : ℕ) (bytes : List ℕ) → (0 < n → i ≡ k) → take n (drop i bytes) ≡ take n (drop k bytes)
taken_from zero i k bytes same = refl
taken_from (suc n) i k bytes same = ap (λ j. take (suc n) (drop j bytes)) (same (omega arith))

pub returns : goal.returns
returns c =
    let line = c.self.inside in
    let start = c.args.start in
    let size = c.args.end - start in
    let from = min start (min c.args.end line.size) in
    let few : min c.args.end line.size - from ≡ min size (line.size - start) = omega arith in
    search (rules, drop-drop, taken_from, take_of_take, drop_of_take)
