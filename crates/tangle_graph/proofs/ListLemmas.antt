-- Lists that grow at the end.
use Rattle.std.proofs.lemmas.Bool.Decides.{nat_tests}
use Rattle.std.proofs.lemmas.Grind.{common_steps}
use Rattle.std.proofs.Common.{◌≡◌, ◌<◌, ◌+◌, ℕ, Bool, List, [], ◌∷◌, ◌++◌, length}
use Rattle.std.proofs.Common.{◌||◌, arith, filter, take, get_or, sym, map, flat_map}
use Rattle.std.specs.Prelude.{All, if◌then◌else◌}
use Rattle.std.specs.List.{list_any, range_with_len}
use Rattle.digraph.proofs.UserLemmas.{range_push}
use Rattle.std.proofs.lemmas.List.Folds.{list_any-append}
use Rattle.std.proofs.lemmas.List.{flat_map_more}
use Rattle.std.proofs.lemmas.List.Elements.{All-append, All-nil, filter_more}

-- one more number of a range

pub range_more : {X : Type 0} (g : ℕ → List X) (n : ℕ)
    → flat_map g (range_with_len 0 (n + 1)) ≡ flat_map g (range_with_len 0 n) ++ g n
range_more g n = rw (range_push n) (sym (flat_map_more g [] (range_with_len 0 n) n))

pub any_more : (p : ℕ → Bool) (n : ℕ)
    → list_any p (range_with_len 0 (n + 1)) ≡ (list_any p (range_with_len 0 n) || p n)
any_more p n = grind (arith, nat_tests, range_push n, list_any-append p (range_with_len 0 n))

pub all_flat : {X : Type 0} (P : ℕ → Type 0) (f : X → List ℕ)
    → ((x : X) → All P (f x)) → (xs : List X) → All P (flat_map f xs)
all_flat P f each [] = All-nil P
all_flat P f each (x ∷ xs) = All-append P (f x) (flat_map f xs) (each x) (all_flat P f each xs)

-- one more item of a list that is filtered and mapped
pub mapped_more : {X Y : Type 0} (p : X → Bool) (f : X → Y) (xs : List X) (i : ℕ) (d : X) → i < length xs
    → map f (filter p (take (i + 1) xs))
    ≡ map f (filter p (take i xs)) ++ (if p (get_or xs i d) then f (get_or xs i d) ∷ [] else [])
mapped_more p f xs i d h = grind (arith, common_steps, filter_more p xs i d h)
