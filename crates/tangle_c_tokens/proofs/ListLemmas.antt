-- Lists of which each element has a property, by the library's lemmas of `All`.
use Rattle.std.proofs.Common.{ℕ, zero, suc, get_or, List, [], ◌∷◌, ◌++◌, map, take, drop}
use Rattle.std.specs.List.{AllByRecursion, Contains}
use Rattle.std.proofs.lemmas.List.Elements.{All-append, All-drop, All-from_recursion, All-take, Contains-get_or}
use Rattle.std.proofs.lemmas.List.Elements.{recursion_from_All}

pub all-each : {X : Type 0} (P Q : X → Type 0) (xs : List X) → ((x : X) → P x → Q x) → AllByRecursion P xs → AllByRecursion Q xs
all-each P Q [] f h = tt
all-each P Q (x ∷ xs) f h = (f x h.0, all-each P Q xs f h.1)

pub all-map : {X Y : Type 0} (P : Y → Type 0) (f : X → Y) (xs : List X) → AllByRecursion (λ x. P (f x)) xs → AllByRecursion P (map f xs)
all-map P f [] h = tt
all-map P f (x ∷ xs) h = (h.0, all-map P f xs h.1)

module _ {X : Type 0} (P : X → Type 0) where
  pub all-get : (xs : List X) (n : ℕ) (d : X) → P d → AllByRecursion P xs → P (get_or xs n d)
  all-get [] n d of_d h = of_d
  all-get (x ∷ xs) zero d of_d h = h.0
  all-get (x ∷ xs) (suc n) d of_d h = all-get xs n d of_d h.1

  pub all-append : (xs ys : List X) → AllByRecursion P xs → AllByRecursion P ys → AllByRecursion P (xs ++ ys)
  all-append xs ys h k =
      recursion_from_All P _ (All-append P xs ys (All-from_recursion P xs h) (All-from_recursion P ys k))

  pub all-front : (xs ys : List X) → AllByRecursion P (xs ++ ys) → AllByRecursion P xs
  all-front [] ys h = tt
  all-front (x ∷ xs) ys h = (h.0, all-front xs ys h.1)

  pub all-back : (xs ys : List X) → AllByRecursion P (xs ++ ys) → AllByRecursion P ys
  all-back [] ys h = h
  all-back (x ∷ xs) ys h = all-back xs ys h.1

  pub all-take : (n : ℕ) (xs : List X) → AllByRecursion P xs → AllByRecursion P (take n xs)
  all-take n xs h = recursion_from_All P _ (All-take P n xs (All-from_recursion P xs h))

  pub all-drop : (n : ℕ) (xs : List X) → AllByRecursion P xs → AllByRecursion P (drop n xs)
  all-drop n xs h = recursion_from_All P _ (All-drop P n xs (All-from_recursion P xs h))

  pub each : (xs : List X) → ((x : X) → Contains xs x → P x) → AllByRecursion P xs
  each xs of = recursion_from_All P xs (λ k d lt. of _ (Contains-get_or xs k d lt))
