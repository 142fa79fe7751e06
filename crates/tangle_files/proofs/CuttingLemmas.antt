-- Bytes are cut at the first line feed, and a line at its last byte that is no space.
use Rattle.std.proofs.Common.{rules}
use Rattle.std.proofs.lemmas.Bool.Decides.{nat_tests}
use Rattle.std.proofs.Common.{◌≡◌, ℕ, suc, ◌<◌, ◌≤◌, ◌==◌, false, cond, List, [], ◌∷◌, length}
use Rattle.std.proofs.Common.{take, drop, refl, ap, ◌∙◌, arith, ◌+◌, ◌-◌, ◌++◌, length-drop}
use Rattle.std.specs.List.{list_any, slice_index}
use Rattle.std.proofs.lemmas.List.{drop_all, drop-drop, length-map, take-take, length-take, get_or-drop}
use Rattle.std.proofs.lemmas.Bool.{cond_both, cases_lt}
use Rattle.memchr.specs.Find.{is_byte, places, places_from}
use Rattle.tangle_files.specs.Lines.{raw_lines, trimmed, cut}
use Rattle.std.proofs.Common.{None, inl, inr}
use Rattle.tangle_files.specs.Adding.{cut_refusal, is_too_long, most_lines}
use Rattle.tangle_files.specs.Sharing.{slice_of}

-- one more byte at the end of a line
pub trimmed-push : (bs : List ℕ) (c : ℕ) → trimmed (bs ++ c ∷ []) ≡ cond (c == 32) (trimmed bs) (bs ++ c ∷ [])
trimmed-push [] c = refl
trimmed-push (b ∷ []) c = grind (arith, nat_tests)
trimmed-push (b ∷ d ∷ bs) c = grind (arith, nat_tests, trimmed-push (d ∷ bs) c)

-- there are no more lines than bytes
pub length-raw_lines : (bs : List ℕ) → length (raw_lines bs) ≤ length bs
length-raw_lines [] = omega arith
length-raw_lines (b ∷ bs) = grind (arith, nat_tests, length-raw_lines bs)

-- a trimmed line is a prefix of the line
pub trimmed_is_front : (bs : List ℕ) → take (length (trimmed bs)) bs ≡ trimmed bs
trimmed_is_front [] = refl
trimmed_is_front (b ∷ bs) = grind (arith, nat_tests, trimmed_is_front bs)

module _ (text : List ℕ) where
  -- a line begins and ends at these positions
  abbrev pub IsLine : ℕ → ℕ → Type 0
  IsLine start end =
      raw_lines (drop start text) ≡ take (end - start) (drop start text) ∷ raw_lines (drop (end + 1) text)

  -- the lines from a position on end at these places, and then with the text
  abbrev pub AreEnds : ℕ → List ℕ → Type 0
  AreEnds start [] = start < length text → IsLine start (length text)
  AreEnds start (end ∷ ends) = ((start ≤ end) × (end < length text)) × (IsLine start end × AreEnds (end + 1) ends)

  module _ (start b : ℕ) (bs : List ℕ) (other : (b == 10) ≡ false)
      (is : b ∷ bs ≡ drop start text) (rest : bs ≡ drop (start + 1) text) where
    one-byte : (end : ℕ) → start < end → IsLine (start + 1) end → IsLine start end
    one-byte end low h =
        let more : end - start ≡ suc (end - (start + 1)) = omega arith in
        rw (more, ← is) (grind (arith, nat_tests))

    one-earlier : (ends : List ℕ) → AreEnds (start + 1) ends → AreEnds start ends
    one-earlier [] h = λ below.
        elim (cases_lt (start + 1) (length text)) [
          | inl less ↦ one-byte (length text) below (h less)
          | inr most ↦
              let alone : length text - start ≡ suc 0 = omega arith in
              rw (← is, alone, drop_all (length text + 1) text (omega arith), rest ∙ drop_all (start + 1) text most)
              (grind (arith, nat_tests))
        ]
    one-earlier (end ∷ ends) h = ((omega arith, h.0.1), (one-byte end (omega (arith, h.0.0)) h.1.0, h.1.1))

  -- the places of the line feeds from a position on are ends of lines
  are_ends : (bytes : List ℕ) (start : ℕ)
      → bytes ≡ drop start text → AreEnds start (places_from (is_byte 10) text start (length bytes))
  unfolding places_from
  are_ends [] start is = λ below. absurd (omega (arith, ap length is, length-drop start text))
  are_ends (b ∷ bs) start is =
      let left : suc (length bs) ≡ length text - start = omega (arith, ap length is, length-drop start text) in
      let here : slice_index text start ≡ b = grind (arith, nat_tests, get_or-drop start text 0 0) in
      let rest : bs ≡ drop (start + 1) text =
      ap (drop 1) is ∙ drop-drop 1 start text ∙ ap (λ n. drop n text) (omega arith) in
      let more = are_ends bs (start + 1) rest in
      cond_both (is_byte 10 (slice_index text start))
      (start ∷ places_from (is_byte 10) text (start + 1) (length bs)) _ (AreEnds start)
      (λ feed. ((omega arith, omega arith), (grind (arith, nat_tests), more)))
      (λ other. one-earlier start b bs (rw here at other) is rest _ more)

  pub text_ends : AreEnds 0 (places (is_byte 10) text)
  text_ends = let all : length text ≡ length text - 0 = omega arith in rw (← all) (are_ends text 0 refl)

pub trimmed_shorter : (bs : List ℕ) → length (trimmed bs) ≤ length bs
trimmed_shorter bs = omega (arith, ap length (trimmed_is_front bs), length-take (length (trimmed bs)) bs)

-- a trimmed line is the slice of its size
pub trimmed_slice : (text line : List ℕ) (start end : ℕ)
    → line ≡ trimmed (take (end - start) (drop start text)) → slice_of text start (length line) ≡ line
trimmed_slice text line start end is =
    let whole = take (end - start) (drop start text) in
    grind (arith, nat_tests, length-take, take-take, trimmed_is_front whole)

-- `lines` are the lines of the text before `start`, and they keep the limits
pub record IsCutUpTo (text : List ℕ) (start : ℕ) (lines : List (List ℕ)) : Type 0 where
  pub made : lines ++ cut (drop start text) ≡ cut text
  pub short : list_any is_too_long (cut (drop start text)) ≡ list_any is_too_long (cut text)
  pub few : length lines ≤ most_lines
  pub within : start ≤ length text + 1

-- once all of the text is cut, it is within the limits
pub all_cut : (text : List ℕ) (lines : List (List ℕ))
    → IsCutUpTo text (length text + 1) lines → (lines ≡ cut text) × (cut_refusal text ≡ None)
all_cut text lines h = search (rules, drop_all)

pub ruleset line_sizes = (length-map, length-raw_lines, length-take, trimmed_shorter, trimmed_slice)
