-- Whether a list has no text, one or several, and whether an item of it passes a test.
use Rattle.std.proofs.lemmas.Bool.Decides.{nat_tests}
use Rattle.std.proofs.Common.{◌≡◌, ◌∙◌, ◌&&◌, not, Bool, true, false, filter, List, [], ◌∷◌, refl, ap, sym}
use Rattle.std.proofs.Common.{Contains, map, ◌||◌, arith, get_or, length, ◌<◌, ◌≤◌}
use Rattle.std.specs.List.{list_all, list_any, position_or_len}
use Rattle.std.proofs.lemmas.List.Elements.{All-contains, Contains-get_or}
use Rattle.std.proofs.lemmas.List.Folds.{list_any-from_Any, list_any_none}
use Rattle.std.proofs.lemmas.List.Sums.{AllPass-from_list_all, fails_before_first}
use Rattle.std.proofs.lemmas.Map.Views.{Contains-from_any}
use Rattle.std.specs.Str.{bytes_eq}
use Rattle.std.proofs.lemmas.Slice.Eq.{bytes_eq-Decides}
use Rattle.tangle_names.specs.Names.{NameText, Meaning, Nothing, One, Several, begins_with, only, only_with}
use Rattle.tangle_names.specs.Laws.{Begins, HasSeveral, IsOnly}
use Rattle.tangle_names.specs.Sorted.{SameTexts, is_several}
use Rattle.std.proofs.lemmas.Bool.{cond_both}
use Rattle.tangle_names.specs.Faults.{begins_another}
use Rattle.tangle_names.proofs.ContainsLemmas.{here, there, no_item, cons_cases, into_filter, out_of_filter}

pub list_all-at : {X : Type 0} (q : X → Bool) (xs : List X) (u : X) → list_all q xs ≡ true → Contains xs u → q u ≡ true
list_all-at q xs u h c = All-contains (λ v. q v ≡ true) xs u (AllPass-from_list_all q xs h) c

-- what the names mean of which this holds
abbrev pub Fits : (NameText → Type 0) → Meaning → Type 0
Fits P Nothing = (name : NameText) → P name → ⊥
Fits P (One name) = IsOnly P name
Fits P Several = HasSeveral P

as_first : (x : NameText) (xs : List NameText)
    → list_all (bytes_eq x) xs ≡ true → (v : NameText) → Contains (x ∷ xs) v → v ≡ x
as_first x xs h v e =
    grind (arith, nat_tests, list_all-at (bytes_eq x) xs v h, cons_cases x xs v e, bytes_eq-Decides x v)

fails : (q : NameText → Bool) (xs : List NameText)
    → list_all q xs ≡ false → (v : NameText) × Contains xs v × (q v ≡ false)
fails q [] h = absurd (cc)
fails q (x ∷ xs) h = grind (arith, nat_tests, fails q xs, here x xs, there x xs)

-- of the names that begin with a prefix, by a list with the same texts
pub only_with-fits : (full texts : List NameText) (p : NameText) → SameTexts full texts
    → Fits (Begins full p) (only_with texts p)
only_with-fits full texts p same =
    by (filter (begins_with p) texts)
    (λ t b. into_filter (begins_with p) texts t (same.over t b.is_full) b.begins)
    (λ t c. grind (arith, nat_tests, out_of_filter (begins_with p) texts t c, same.back t))
  where
    by : (xs : List NameText) → ((t : NameText) → Begins full p t → Contains xs t)
        → ((t : NameText) → Contains xs t → Begins full p t) → Fits (Begins full p) (only xs)
    by [] into out = λ t b. no_item t (into t b)
    by (x ∷ xs) into out =
        cond_both (list_all (bytes_eq x) xs) (One x) Several (Fits (Begins full p))
        (λ all. (out x (here x xs), λ other b. as_first x xs all other (into other b)))
        (λ some. (let other = fails (bytes_eq x) xs some in (
          x,
          other.0,
          out x (here x xs),
          out other.0 (there x xs other.0 other.1),
          grind (arith, nat_tests, bytes_eq-Decides x other.0),
        )))

fits-once : (P : NameText → Type 0) (m n : Meaning) → Fits P m → Fits P n → m ≡ n
fits-once P m n f g = grind (arith, nat_tests)

pub itself : (texts : List NameText) → SameTexts texts texts
itself texts = record { over = λ t c. c; back = λ t c. c }

pub only_with-same : (full texts : List NameText) (p : NameText) → SameTexts full texts
    → only_with texts p ≡ only_with full p
only_with-same full texts p same =
    fits-once (Begins full p) _ _ (only_with-fits full texts p same)
    (only_with-fits full full p (itself full))

pub list_any-none : {X : Type 0} (q : X → Bool) (xs : List X)
    → ((v : X) → Contains xs v → q v ≡ false) → list_any q xs ≡ false
list_any-none q xs h = list_any_none q xs (λ i d low. h (get_or xs i d) (Contains-get_or xs i d low))

pub list_any-some : {X : Type 0} (q : X → Bool) (xs : List X) (v : X)
    → Contains xs v → q v ≡ true → list_any q xs ≡ true
list_any-some q xs v c is = list_any-from_Any q xs (c.0, v, c.1, c.2, is)

pub contains-any : (t : NameText) (ts : List NameText) → list_any (bytes_eq t) ts ≡ true → Contains ts t
contains-any t ts h = Contains-from_any {eq = bytes_eq} (λ x y e. (bytes_eq-Decides x y).0 e) t ts h

pub begins_itself : (t : NameText) → begins_with t t ≡ true
begins_itself [] = refl
begins_itself (b ∷ t) = grind (arith, nat_tests, begins_itself t)

-- a name of these begins another exactly where several of them begin with it
pub begins-several : (full texts : List NameText) (name : NameText) → SameTexts full texts → Contains full name
    → begins_another full name ≡ is_several (only_with texts name)
begins-several full texts name same c = by (only_with texts name) (only_with-fits full texts name same)
  where
    own : Begins full name name
    own = record { is_full = c; begins = begins_itself name }

    by : (m : Meaning) → Fits (Begins full name) m → begins_another full name ≡ is_several m
    by Nothing f = absurd (f name own)
    by (One t) f = list_any-none _ full (λ u d. (
        let is = bytes_eq-Decides name u in grind (arith, nat_tests, is, f.1 u, f.1 name own)))
    by Several f =
        let some = list_any-some (λ u. begins_with name u && not (bytes_eq name u)) full in
        let is = bytes_eq-Decides name in
        grind (arith, nat_tests, some f.0 f.2.is_full, some f.1 f.3.is_full, is f.0, is f.1)

pub any-map : {X Y : Type 0} (q : Y → Bool) (f : X → Y) (xs : List X)
    → list_any q (map f xs) ≡ list_any (λ x. q (f x)) xs
any-map q f [] = refl
any-map q f (x ∷ xs) = ap (λ b. q (f x) || b) (any-map q f xs)

-- the first position of an item that passes
pub any_inside : {X : Type 0} (q : X → Bool) (xs : List X) → list_any q xs ≡ true → position_or_len q xs < length xs
any_inside q [] h = absurd (cc)
any_inside q (x ∷ xs) h = grind (arith, nat_tests, any_inside q xs)

pub none_passes : {X : Type 0} (q : X → Bool) (xs : List X) (x : X)
    → length xs ≤ position_or_len q xs → Contains xs x → q x ≡ false
none_passes q xs x past c = ap q (sym c.2) ∙ fails_before_first q xs c.0 x (omega arith)
