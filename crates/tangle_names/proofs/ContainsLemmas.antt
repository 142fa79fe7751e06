-- What a list contains, after a map or a filter, too.
use Rattle.std.proofs.lemmas.Bool.{cases_Bool}
use Rattle.std.proofs.Common.{rules}
use Rattle.std.proofs.lemmas.Bool.Decides.{nat_tests}
use Rattle.std.proofs.Common.{◌≡◌, ◌⊎◌, Bool, true, List, [], ◌∷◌, map, filter, refl}
use Rattle.std.proofs.Common.{inl, inr, arith, Contains}
use Rattle.std.proofs.lemmas.List.{get_or-map, length-map}
use Rattle.std.proofs.lemmas.List.Elements.{Contains-append_right}
use Rattle.std.proofs.lemmas.List.Elements.{All-contains, All-filter, All-contains_itself, filter_passes}

pub here : {X : Type 0} (x : X) (xs : List X) → Contains (x ∷ xs) x
here x xs = (0, omega arith, refl)

pub there : {X : Type 0} (x : X) (xs : List X) (t : X) → Contains xs t → Contains (x ∷ xs) t
there x xs t c = Contains-append_right (x ∷ []) xs t c

pub no_item : {X : Type 0} (t : X) → Contains [] t → ⊥
no_item t c = omega arith

pub cons_cases : {X : Type 0} (x : X) (xs : List X) (t : X) → Contains (x ∷ xs) t → (x ≡ t) ⊎ Contains xs t
cons_cases x xs t c = search rules

pub into_filter : {X : Type 0} (q : X → Bool) (xs : List X) (t : X)
    → Contains xs t → q t ≡ true → Contains (filter q xs) t
into_filter q [] t c h = c
into_filter q (x ∷ xs) t c h =
    let m = into_filter q xs t in
    elim (cons_cases x xs t c) [
      | inl e ↦ search rules
      | inr d ↦
          elim (cases_Bool (q x)) [ inl y ↦ rw y (there x _ t (m d h)) | inr n ↦ rw n (m d h) ]
    ]

pub out_of_filter : {X : Type 0} (q : X → Bool) (xs : List X) (t : X)
    → Contains (filter q xs) t → Contains xs t × (q t ≡ true)
out_of_filter q xs t c = (
  All-contains (Contains xs) (filter q xs) t (All-filter q (Contains xs) xs (All-contains_itself xs)) c,
  All-contains (λ x. q x ≡ true) (filter q xs) t (filter_passes q xs) c,
)

pub into_map : {X Y : Type 0} (f : X → Y) (xs : List X) (x : X) → Contains xs x → Contains (map f xs) (f x)
into_map f xs x c = search (rules, length-map, get_or-map)

pub out_of_map : {X Y : Type 0} (f : X → Y) (xs : List X) (y : Y)
    → Contains (map f xs) y → (x : X) × Contains xs x × (f x ≡ y)
out_of_map f [] y c = absurd (no_item y c)
out_of_map f (x ∷ xs) y c = grind (arith, nat_tests, out_of_map f xs y, there x xs)

pub map_same : {X Y : Type 0} (f g : X → Y) (xs : List X)
    → ((x : X) → Contains xs x → f x ≡ g x) → map f xs ≡ map g xs
map_same f g [] same = refl
map_same f g (x ∷ xs) same = search (rules, map_same f g xs, here, there)
