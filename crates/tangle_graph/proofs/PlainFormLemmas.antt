-- Parts joined by slashes.
use Rattle.std.proofs.Common.{◌≡◌, ◌<◌, ◌+◌, ◌==◌, ℕ, List, [], ◌∷◌, ◌++◌, length, map, take, get_or}
use Rattle.std.proofs.lemmas.Bool.Decides.{nat_tests}
use Rattle.std.proofs.Common.{Bor, refl, arith, append_assoc, length-take}
use Rattle.std.specs.Prelude.{if◌then◌else◌}
use Rattle.std.specs.List.{join_with_byte}
use Rattle.std.proofs.lemmas.List.{length-map, map_more}

-- one more part
join_more : (c : ℕ) (ys : List (List ℕ)) (x : List ℕ)
    → join_with_byte c (ys ++ x ∷ [])
    ≡ join_with_byte c ys ++ ((if length ys == 0 then [] else c ∷ []) ++ x)
join_more c [] x = refl
join_more c (y ∷ []) x = refl
join_more c (y ∷ z ∷ ys) x = grind (arith, nat_tests, join_more c (z ∷ ys) x, append_assoc y)

-- one more of the parts that are joined
pub parts_more : (c : ℕ) (xs : List (Bor (List ℕ))) (i : ℕ) (d : Bor (List ℕ)) → i < length xs
    → join_with_byte c (map (λ (part : Bor (List ℕ)). part.now) (take (i + 1) xs))
    ≡ join_with_byte c (map (λ (part : Bor (List ℕ)). part.now) (take i xs))
    ++ ((if i == 0 then [] else c ∷ []) ++ (get_or xs i d).now)
parts_more c xs i d low =
    let text = λ (part : Bor (List ℕ)). part.now in
    let joined = join_more c (map text (take i xs)) in
    grind (arith, nat_tests, map_more text xs i d low, joined, length-map (take i xs) text, length-take i xs)
