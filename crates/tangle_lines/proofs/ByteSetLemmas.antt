-- Searching for a byte of a set, or for one outside a set, by the definitions of reading.
use Rattle.std.proofs.Common.{rules}
use Rattle.std.proofs.Common.{◌≡◌, ℕ, Bool, true, false, not, ◌||◌, ◌==◌, List, [], ◌∷◌, length, sym, arith}
use Rattle.std.proofs.Common.{Option, Some, None, is_some, slice_index, unwrap_or}
use Rattle.std.specs.List.{list_all, position_or_len}
use Rattle.std.proofs.lemmas.Bool.{false_from_ne_true, false≢true}
use Rattle.std.proofs.lemmas.List.Elements.{All-from_get_or}
use Rattle.std.proofs.lemmas.List.Folds.{list_all_at}
use Rattle.std.proofs.lemmas.List.Sums.{position_or_len_is, list_all-from_AllPass}
use Rattle.std.proofs.Math.Bool.{or_assoc, or-false}
use Rattle.bstr.specs.Find.{IsFirstByte}
use Rattle.bstr.specs.Bytes.{is_in, not_in}
use Rattle.bstr.proofs.lemmas.ByteLemmas.{IsFirstByte-same}
use Rattle.tangle_lines.specs.Bytes.{double_quote, is_white}

-- a search found the first byte that passes a test; where it found none, that is at the end
pub found-at : (searched test : ℕ → Bool) → ((b : ℕ) → searched b ≡ test b) → (hay : List ℕ) (r : Option ℕ)
    → IsFirstByte searched hay r → position_or_len test hay ≡ unwrap_or r (length hay)
found-at searched test same hay (Some k) h = search (rules, position_or_len_is)
found-at searched test same hay None h =
    let f = IsFirstByte-same hay searched test (λ j _. same (slice_index hay j)) None h in
    position_or_len_is test hay (length hay) 0 (omega arith)
    (λ j l. false_from_ne_true _ (f j (omega arith) l)) (λ l. absurd (omega arith))

abbrev white_set : List ℕ
white_set = 32 ∷ 9 ∷ 13 ∷ 11 ∷ 12 ∷ []

abbrev white_or_quote_set : List ℕ
white_or_quote_set = 32 ∷ 9 ∷ 13 ∷ 11 ∷ 12 ∷ 34 ∷ []

pub is_in-white : (b : ℕ) → is_in white_set b ≡ is_white b
unfolding is_in
is_in-white b = simp or-false

pub is_in-white_or_quote : (b : ℕ) → is_in white_or_quote_set b ≡ (is_white b || (b == double_quote))
unfolding is_in
is_in-white_or_quote b = simp (or_assoc, or-false)

-- all bytes are white space if no other byte is found
pub blank-found : (hay : List ℕ) (r : Option ℕ) (blank : Bool)
    → IsFirstByte (not_in white_set) hay r → is_some r ≡ not blank → blank ≡ list_all is_white hay
blank-found hay None true h e =
    sym (list_all-from_AllPass is_white hay (All-from_get_or (λ b. is_white b ≡ true) hay 0 (search (rules, is_in-white))))
blank-found hay (Some k) false h e = search (rules, list_all_at, is_in-white)
blank-found hay None false h e = absurd (false≢true e)
blank-found hay (Some k) true h e = absurd (false≢true (sym e))
