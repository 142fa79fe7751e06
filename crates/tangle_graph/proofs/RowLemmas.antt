-- Rows of the numbers of items.
use Rattle.std.proofs.lemmas.Bool.Decides.{nat_tests}
use Rattle.std.proofs.Common.{◌≡◌, ◌∙◌, ◌<◌, ℕ, Bool, List, [], ◌∷◌, length, map, filter, get_or, refl, ap, sym, arith}
use Rattle.std.proofs.Common.{All}
use Rattle.std.specs.List.{range_with_len}
use Rattle.std.proofs.lemmas.List.Elements.{All-filter}
use Rattle.std.proofs.lemmas.List.FromFn.{fill_by_all, get_or-range_with_len, length-range_with_len}
use Rattle.digraph.specs.Users.{numbers_where}

pub numbers_below : (p : ℕ → Bool) (n : ℕ) → All (λ j. j < n) (numbers_where p n)
numbers_below p n = All-filter p (λ j. j < n) (range_with_len 0 n)
    (λ k d h. omega (arith, length-range_with_len 0 n, get_or-range_with_len 0 n k d))

mapped_filter : {X Y : Type 0} (p : Y → Bool) (f : X → Y) (xs : List X)
    → map f (filter (λ x. p (f x)) xs) ≡ filter p (map f xs)
mapped_filter p f [] = refl
mapped_filter p f (x ∷ xs) = grind (arith, nat_tests, mapped_filter p f xs)

-- the items with the numbers that pass are the items that pass
pub positions_read : {X : Type 0} (p : X → Bool) (xs : List X) (d : X)
    → map (λ n. get_or xs n d) (numbers_where (λ n. p (get_or xs n d)) (length xs)) ≡ filter p xs
positions_read p xs d = mapped_filter p (λ n. get_or xs n d) (range_with_len 0 (length xs))
    ∙ ap (filter p) (sym (fill_by_all (λ n. get_or xs n d) xs (length xs) d refl (λ k h. refl)))
