-- Whether a name ends with three dots.
use Rattle.std.proofs.Common.{◌≡◌, ℕ, ◌+◌, ◌-◌, ◌≤◌, ◌↔◌, Bool, List, length, take, drop, ap, sym, ◌∙◌, arith, take_all}
use Rattle.std.proofs.Common.{length-drop}
use Rattle.std.specs.Prelude.{IsTrue}
use Rattle.std.specs.Str.{bytes_eq}
use Rattle.std.proofs.lemmas.Bool.{and_parts, and_from, le-leb}
use Rattle.std.proofs.lemmas.Slice.Eq.{bytes_eq-Decides}
use Rattle.std.specs.Cmp.{both_ways}
use Rattle.bstr.specs.Find.{OccursAt}
use Rattle.memchr.proofs.lemmas.MatchLemmas.{occurs_at-true, OccursAt-true}
use Rattle.tangle_lexer.specs.Names.{dots}

-- a name ends with the dots if and only if they are its last three bytes
pub ends_with_dots : (name : List ℕ) (r : Bool) → IsTrue r ↔ ((3 ≤ length name) × OccursAt name dots (length name - 3))
    → r ≡ bytes_eq (drop (length name - 3) name) dots
ends_with_dots name r h =
    let k = length name - 3 in
    let all : take 3 (drop k name) ≡ drop k name = take_all 3 (drop k name) (omega (arith, length-drop k name)) in
    both_ways r (bytes_eq (drop k name) dots)
    (λ ends. ap (λ l. bytes_eq l dots) (sym all) ∙ (and_parts _ _ (occurs_at-true name dots k (h.0 ends).1)).1)
    (λ equal.
    let same : drop k name ≡ dots = (bytes_eq-Decides (drop k name) dots).0 equal in
    let long : 3 ≤ length name = omega (arith, length-drop k name, ap length same) in
    let fits : k + 3 ≤ length name = omega arith in
    h.1 (long, OccursAt-true name dots k (and_from _ _ (le-leb _ _ fits) (ap (λ l. bytes_eq l dots) all ∙ equal))))
