-- The names that begin another one.
use Rattle.std.proofs.lemmas.Bool.Decides.{nat_tests}
use Rattle.std.proofs.Common.{◌≡◌, ◌<◌, ◌+◌, ◌&&◌, ◌||◌, ℕ, Bool, true, false, List, [], ◌∷◌}
use Rattle.std.proofs.Common.{Contains, arith, get_or, length, map, refl, take, ap}
use Rattle.std.specs.Prelude.{slice_set}
use Rattle.std.specs.List.{AllByRecursion, IsDistinct, list_any, position_or_len}
use Rattle.std.specs.Str.{bytes_eq}
use Rattle.std.specs.Ordering.{is_lt, nat_cmp}
use Rattle.std.specs.Cmp.Lexicographic.{slice_cmp}
use Rattle.std.proofs.lemmas.List.Folds.{list_any_more}
use Rattle.std.proofs.Common.{if◌then◌else◌}
use Rattle.std.proofs.lemmas.Slice.Eq.{bytes_eq-Decides}
use Rattle.std.proofs.lemmas.Map.Keys.{IsDistinct-head, IsDistinct-tail, Less-from_sorted}
use Rattle.std.proofs.lemmas.List.Elements.{Contains-get_or}
use Rattle.tangle_names.specs.Names.{NameText}
use Rattle.tangle_names.specs.Faults.{begins_another}
use Rattle.tangle_names.specs.Sorted.{IsInOrder, SameTexts, begins_at}
use Rattle.tangle_names.proofs.MeaningLemmas.{begins_itself, begins-several, list_any-some, list_any-none}
use Rattle.tangle_names.proofs.SortedLemmas.{alike, meant_at}

-- the name is among these texts, and begins another of the names
abbrev pub begins_among : List NameText → List NameText → NameText → Bool
begins_among names texts name = list_any (λ t. begins_another names t && bytes_eq t name) texts

-- all texts
pub all-among : (names texts : List NameText) (name : NameText) → Contains texts name
    → begins_among names texts name ≡ begins_another names name
all-among names texts name c =
    let some = list_any-some (λ t. begins_another names t && bytes_eq t name) texts name c in
    let none = list_any-none (λ t. begins_another names t && bytes_eq t name) texts in
    grind (arith, nat_tests, some, none, bytes_eq-Decides)

-- the flag of the name with this text is set

unflagged : (flag : NameText → Bool) (t : NameText) (names : List NameText)
    → AllByRecursion (λ name. bytes_eq t name ≡ false) names
    → map (λ name. flag name || bytes_eq t name) names ≡ map flag names
unflagged flag t [] h = refl
unflagged flag t (name ∷ names) h = grind (arith, nat_tests, unflagged flag t names)

pub flagged : (flag : NameText → Bool) (t : NameText) (names : List NameText)
    → IsDistinct bytes_eq names → slice_set (map flag names) (position_or_len (bytes_eq t) names) true
    ≡ map (λ name. flag name || bytes_eq t name) names
flagged flag t [] d = refl
flagged flag t (name ∷ names) d =
    let rest = unflagged flag name names (IsDistinct-head bytes_eq name names d) in
    let more = flagged flag t names (IsDistinct-tail bytes_eq name names d) in
    grind (arith, nat_tests, rest, more, bytes_eq-Decides t name)

-- one more text
among-next : (names texts : List NameText) (k : ℕ) (t : NameText)
    → k < length texts → get_or texts k [] ≡ t → (name : NameText)
    → begins_among names (take (k + 1) texts) name
    ≡ (begins_among names (take k texts) name || (begins_another names t && bytes_eq t name))
among-next names texts k t inside at name =
    rw (← at) (list_any_more (λ u. begins_another names u && bytes_eq u name) texts k [] inside)

pub more-among : (names texts : List NameText) (k : ℕ) (t : NameText) (begins : Bool)
    (flags : List Bool) → IsDistinct bytes_eq names
    → k < length texts → get_or texts k [] ≡ t → begins_another names t ≡ begins
    → flags ≡ map (begins_among names (take k texts)) names
    → (if begins then slice_set flags (position_or_len (bytes_eq t) names) true else flags)
    ≡ map (begins_among names (take (k + 1) texts)) names
more-among names texts k t begins flags d inside at is before =
    let more = among-next names texts k t inside at in (
    let set = flagged (begins_among names (take k texts)) t names d in grind (arith, nat_tests, set, more))

-- In the order of bytes, a name begins another one exactly where it begins the next one.
pub next-begins : (names texts : List NameText) (i : ℕ)
    → IsInOrder texts → SameTexts names texts → i < length texts
    → begins_another names (get_or texts i []) ≡ begins_at texts (get_or texts i []) (i + 1)
next-begins names texts i up same inside =
    let t = get_or texts i [] in
    let lower = Less-from_sorted (slice_cmp nat_cmp) texts in
    let meant = meant_at texts t i up (λ k low h. ap is_lt (lower k i [] up low inside))
    (λ h. ap is_lt (alike t)) in
    let c = same.back t (Contains-get_or texts i [] inside) in
    grind (arith, nat_tests, meant, begins-several names texts t same c, begins_itself t)
