-- Lists that are made element by element, joined and cut.
use Rattle.std.proofs.lemmas.Bool.Decides.{nat_tests}
use Rattle.std.proofs.Common.{◌≡◌, ◌∙◌, ℕ, ◌+◌, ◌<◌, zero, suc, All, arith, get_or, List, [], ◌∷◌, ◌++◌, map, refl}
use Rattle.std.proofs.Common.{append_assoc, ap, drop, length, sym, take}
use Rattle.std.specs.Prelude.{Some, flat_map, slice_get}
use Rattle.std.specs.Global.{Global}
use Rattle.std.specs.declared.rc.Rc.{Rc}
use Rattle.std.proofs.lemmas.Grind.{common_steps}
use Rattle.std.proofs.lemmas.Option.{gets, slice_get-get_or}
use Rattle.std.proofs.lemmas.List.{drop_more, map-append}
use Rattle.std.proofs.Math.Seq.{take-append_seam, drop-append_seam}

-- for `grind`: lists that are joined
pub ruleset joins = (arith, nat_tests, append_assoc)

-- two lists that are joined, cut where they meet
pub seams : {X : Type 0} (xs ys : List X)
    → (take (length xs) (xs ++ ys) ≡ xs) × (drop (length xs) (xs ++ ys) ≡ ys)
seams xs ys = (take-append_seam xs ys, drop-append_seam xs ys)

pub drop_at : {X : Type 0} (xs : List X) (i : ℕ) (x : X)
    → i < length xs → x ≡ get_or xs i x → drop i xs ≡ x ∷ drop (i + 1) xs
drop_at xs i x h e = drop_more xs i x h ∙ ap (λ v. v ∷ drop (i + 1) xs) (sym e)

-- what `f` gives for each element, mapped, is what `h` gives, mapped, for each element that `g` makes of them
pub each_mapped : {X Y A B C : Type 0} (k : A → C) (l : B → C) (f : X → List A) (h : Y → List B) (g : X → Y)
    → ((x : X) → map k (f x) ≡ map l (h (g x))) → (xs : List X) → map k (flat_map f xs) ≡ map l (flat_map h (map g xs))
each_mapped k l f h g same [] = refl
each_mapped k l f h g same (x ∷ xs) =
    grind (arith, nat_tests, map-append k, map-append l, each_mapped k l f h g same xs)

-- what holds of each item of a list, and of the default, holds of whatever is read from the list
pub all_or : {X : Type 0} (P : X → Type 0) (xs : List X) (d : X) → P d → All P xs → (i : ℕ) → P (get_or xs i d)
all_or P [] d none h i = none
all_or P (x ∷ xs) d none h zero = h zero d (omega arith)
all_or P (x ∷ xs) d none h (suc i) = all_or P xs d none (λ j e low. h (suc j) e (omega arith)) i

-- an item of a list, and what is made of it in the list of what is made of each

pub some_at : {X : Type 0} (xs : List X) (n : ℕ) → n < length xs → (x : X) × (slice_get xs n ≡ Some x)
some_at [] n h = absurd (omega arith)
some_at (x ∷ xs) n h = (get_or (x ∷ xs) n x, slice_get-get_or (x ∷ xs) n x h)

pub part_read : {X Y : Type 0} (f : X → Y) (xs : List X) (n : ℕ) (x : X) (d : Y)
    → slice_get xs n ≡ Some x → get_or (map f xs) n d ≡ f x
part_read f xs n x d at = grind (arith, common_steps, gets)

pub read : {X : Type 0} (xs : List (Rc X Global)) (n : ℕ) (x : Rc X Global) → n < length xs → x ≡ get_or xs n x
    → slice_get (map (λ (t : Rc X Global). t.value) xs) n ≡ Some x.value
read xs n x low same = grind (arith, common_steps, gets)
