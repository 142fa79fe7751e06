-- The items that a run goes over. It ends before a word that a quoted text follows, and before a space in front of it.
use Rattle.std.proofs.Common.{rules}
use Rattle.std.proofs.lemmas.Bool.Decides.{nat_tests}
use Rattle.std.proofs.Common.{◌≡◌, ℕ, ◌+◌, ◌<◌, ◌≤◌, ◌==◌, not, zero, suc, Bool, true, false, List, [], ◌∷◌, inl, inr}
use Rattle.std.proofs.Common.{cond, if◌then◌else◌, ◌&&◌, drop, get_or, length, refl, ap, ◌∙◌, ◌-◌, arith}
use Rattle.std.proofs.Common.{drop-drop}
use Rattle.std.proofs.lemmas.List.{get_or-drop, drop_more}
use Rattle.std.proofs.Math.Numerals.{one-add}
use Rattle.std.proofs.lemmas.Bool.{cases_Bool}
use Rattle.std.specs.List.{prefix_len}
use Rattle.tangle_files.specs.Bytes.{space}
use Rattle.tangle_text.specs.Bytes.{is_word_byte}
use Rattle.tangle_text.specs.Runs.{is_single, begins_single, is_run_byte, passing, is_quote, is_before_quote}
use Rattle.tangle_text.specs.Runs.{part_more, begins_item, goes_over, run_size}
use Rattle.tangle_text.proofs.PartLemmas.{part-fits}

-- the run after a part that was begun
pub run-after : (k : ℕ) (bs : List ℕ) → k ≤ length bs → run_size k bs ≡ k + run_size 0 (drop k bs)
run-after zero bs h = omega arith
run-after (suc k) [] h = absurd (omega arith)
run-after (suc k) (b ∷ bs) h = omega (arith, run-after k bs (omega arith))

-- bytes

-- no word that a quoted text follows is at the front
abbrev begins_free : List ℕ → Bool
begins_free [] = true
begins_free (b ∷ bs) = not (is_word_byte b && is_before_quote bs)

-- nor is one after this byte, if that is a space
abbrev pub is_free : ℕ → List ℕ → Bool
is_free b bs = if b == space then begins_free bs else not (is_word_byte b && is_before_quote bs)

-- the run goes over a byte that it may go over, if it is free to
over-byte : (b : ℕ) (bs : List ℕ) → is_run_byte b bs ≡ true → goes_over b bs ≡ is_free b bs
over-byte b bs h = grind (arith, nat_tests)

free-word : (b : ℕ) (bs : List ℕ) → is_free b bs ≡ true → is_word_byte b ≡ true → is_before_quote bs ≡ false
free-word b bs h word = grind arith

size-byte : (b : ℕ) (bs : List ℕ) → is_run_byte b bs ≡ true → is_free b bs ≡ true
    → run_size 0 (b ∷ bs) ≡ suc (run_size 0 bs)
size-byte b bs h free =
    let size = one-add (run_size (part_more b bs) bs) in
    grind (arith, nat_tests, over-byte b bs h, size, word-on bs, free-word b bs free)
  where
    word-on : (cs : List ℕ) → is_before_quote cs ≡ false → run_size (prefix_len is_word_byte cs) cs ≡ run_size 0 cs
    word-on [] apart = refl
    word-on (c ∷ cs) apart = grind (arith, nat_tests, one-add (prefix_len is_word_byte cs))

-- `k` bytes that a run may go over, and it is free to go over the last of them

run-no_quote : (b : ℕ) (bs : List ℕ) → is_run_byte b bs ≡ true → is_quote b ≡ false
run-no_quote b bs h = grind (arith, nat_tests)

run-byte : (b : ℕ) (bs : List ℕ) (k : ℕ) → suc k ≤ passing is_run_byte (b ∷ bs)
    → (is_run_byte b bs ≡ true) × (k ≤ passing is_run_byte bs)
run-byte b bs k h = grind (arith, nat_tests)

-- it is free to go over a byte, if the byte after it is in no word before a quoted text
free-before : (b c : ℕ) (cs : List ℕ) → (is_word_byte c ≡ true → is_before_quote cs ≡ false)
    → (is_word_byte c ≡ false → is_word_byte b ≡ true → is_quote c ≡ false) → is_free b (c ∷ cs) ≡ true
free-before b c cs word other = grind arith

run-to : (b : ℕ) (bs : List ℕ) (k : ℕ) → k ≤ passing is_run_byte bs
    → is_free (get_or (b ∷ bs) k 0) (drop k bs) ≡ true
    → (is_free b bs ≡ true) × (run_size 0 bs ≡ k + run_size 0 (drop k bs))
run-to b bs zero h free = (free, omega arith)
run-to b [] (suc k) h free = absurd (omega arith)
run-to b (c ∷ cs) (suc k) h free =
    let byte = run-byte c cs k h in let before = free-before b c cs in
    grind (arith, nat_tests, byte, run-to c cs k, before, free-word c cs, run-no_quote c cs, size-byte c cs)

-- no run is at a word that a quoted text follows, nor at a space before it
word-first : (b : ℕ) (bs : List ℕ) → is_word_byte b ≡ true → is_before_quote bs ≡ true
    → (run_size 0 (b ∷ bs) ≡ 0) × (run_size 0 (space ∷ b ∷ bs) ≡ 0)
word-first b bs word before = grind (arith, nat_tests)

-- a quoted text, and one after a space
quote-first : (b m : ℕ) (bs : List ℕ) → is_quote b ≡ true → m ≡ part_more b bs
    → (run_size 0 (b ∷ bs) ≡ cond (m == 0) 0 (1 + m + run_size 0 (drop m bs)))
    × (run_size 0 (space ∷ b ∷ bs) ≡ cond (m == 0) 0 (2 + m + run_size 0 (drop m bs)))
quote-first b m bs is size = grind (arith, nat_tests, run-after m bs, part-fits b bs)

-- The same at columns of a line.

get-front : (bytes : List ℕ) (column : ℕ) → get_or (drop column bytes) 0 0 ≡ get_or bytes column 0
get-front bytes column = get_or-drop column bytes 0 0 ∙ ap (λ n. get_or bytes n 0) (omega arith)

-- no byte that a run may go over is first
stop-byte : (b : ℕ) (bs : List ℕ) → passing is_run_byte (b ∷ bs) ≡ 0
    → (is_single b bs ≡ false) × ((b == space) ≡ true → begins_single bs ≡ false)
stop-byte b bs h = grind (arith, nat_tests)

word-single : (b : ℕ) (bs : List ℕ) → is_word_byte b ≡ true → is_single b bs ≡ true
word-single b bs word = grind (arith, nat_tests)

end-free : (b : ℕ) (bs : List ℕ) → passing is_run_byte bs ≡ 0
    → (is_word_byte b ≡ true → is_quote (get_or bs 0 0) ≡ false) → is_free b bs ≡ true
end-free b [] stops apart = grind arith
end-free b (c ∷ cs) stops apart =
    free-before b c cs (λ word. cc (word-single c cs word, (stop-byte c cs stops).0)) (λ other. apart)

passing-ends : (bs : List ℕ) → passing is_run_byte (drop (passing is_run_byte bs) bs) ≡ 0
passing-ends [] = refl
passing-ends (b ∷ bs) = grind (arith, nat_tests, one-add (passing is_run_byte bs), passing-ends bs)

module _ (bytes : List ℕ) (from end : ℕ) (single : end ≡ from + passing is_run_byte (drop from bytes)) where
  -- the run goes over the bytes up to a column, if it is free to go over the last of them
  column-to : (column : ℕ) → from ≤ column → column ≤ end
      → (from < column → is_free (get_or bytes (column - 1) 0) (drop column bytes) ≡ true)
      → column + run_size 0 (drop column bytes) ≡ from + run_size 0 (drop from bytes)
  column-to column low high free = by (column - from) (omega arith)
    where
      by : (k : ℕ) → from + k ≡ column → column + run_size 0 (drop column bytes) ≡ from + run_size 0 (drop from bytes)
      by zero at = let same : column ≡ from = omega arith in rw same refl
      by (suc k) at =
          let bs : List ℕ = drop from bytes in
          let byte : get_or bs k 0 ≡ get_or bytes (column - 1) 0 = grind (arith, get_or-drop from bytes k 0) in
          let after : drop (suc k) bs ≡ drop column bytes = grind (arith, drop-drop (suc k) from bytes) in
          let over = run-to 0 bs (suc k) (omega arith) (rw (byte, after) (free (omega arith))) in
          omega (arith, ap (run_size 0) after, over.1)

  -- no more of them come after these
  pub column-ends : passing is_run_byte (drop end bytes) ≡ 0
  column-ends = grind (arith, drop-drop (passing is_run_byte (drop from bytes)) from bytes, passing-ends (drop from bytes))

  -- the bytes end before no quoted text, or after no word
  pub column-plain : (from < end → is_word_byte (get_or bytes (end - 1) 0) ≡ true → is_quote (get_or bytes end 0) ≡ false)
      → end + run_size 0 (drop end bytes) ≡ from + run_size 0 (drop from bytes)
  column-plain apart =
      column-to end (omega arith) (omega arith) (search (rules, end-free, column-ends, get-front))

  -- a word at `start` that a quoted text follows, and the byte before it
  pub column-word : (start : ℕ) → from ≤ start → start < end → end ≤ length bytes
      → is_word_byte (get_or bytes start 0) ≡ true → is_before_quote (drop (start + 1) bytes) ≡ true
      → (from < start → get_or bytes (start - 1) 0 ≡ space → start - 1 ≡ from + run_size 0 (drop from bytes))
      × ((from < start → (is_word_byte (get_or bytes (start - 1) 0) ≡ false)
      × ((get_or bytes (start - 1) 0 == space) ≡ false))
      → start ≡ from + run_size 0 (drop from bytes))
  column-word start low high inside word before =
      let none = word-first (get_or bytes start 0) (drop (start + 1) bytes) word before in
      let at = drop_more bytes start 0 (omega arith) in (
        λ some is. (
            let blank : drop (start - 1) bytes ≡ space ∷ drop start bytes = grind (arith, drop_more bytes (start - 1) 0) in
            grind (arith, none, column-to (start - 1) (omega arith) (omega arith) (λ more. rw blank (grind arith)))),
        λ free. grind (arith, none, column-to start low (omega arith) (λ more. rw ((free more).1, (free more).0) refl)),
      )

-- a quoted text at a column, or after a space there

no-item : (bs : List ℕ) → begins_single bs ≡ false → is_quote (get_or bs 0 0) ≡ false → begins_item bs ≡ false
no-item [] single quote = refl
no-item (b ∷ bs) single quote = grind (arith, word-single b bs)

no-run : (bs : List ℕ) → passing is_run_byte bs ≡ 0
    → is_quote (get_or bs (if get_or bs 0 0 == space then 1 else 0) 0) ≡ false
    → (run_size 0 bs ≡ 0) × (is_quote (get_or bs 0 0) ≡ false)
no-run [] stops other = (refl, refl)
no-run (b ∷ bs) stops other = grind (arith, nat_tests, stop-byte b bs stops, no-item)

-- there is none
pub no-quote : (bytes : List ℕ) (from start : ℕ) → passing is_run_byte (drop from bytes) ≡ 0
    → start ≡ from + (if get_or bytes from 0 == space then 1 else 0) → is_quote (get_or bytes start 0) ≡ false
    → (run_size 0 (drop from bytes) ≡ 0) × (is_quote (get_or bytes from 0) ≡ false)
no-quote bytes from start stops at other = search (rules, no-run, nat_tests, get_or-drop)

-- there is one, up to `end`
pub quote-over : (bytes : List ℕ) (from start end : ℕ) → start ≡ from + (if get_or bytes from 0 == space then 1 else 0)
    → start < length bytes → is_quote (get_or bytes start 0) ≡ true
    → end ≡ start + 1 + part_more (get_or bytes start 0) (drop (start + 1) bytes)
    → (end ≡ start + 1 → run_size 0 (drop from bytes) ≡ 0)
    × ((end ≡ start + 1 → ⊥) → end + run_size 0 (drop end bytes) ≡ from + run_size 0 (drop from bytes))
quote-over bytes from start end at inside is ends =
    let m : ℕ = part_more (get_or bytes start 0) (drop (start + 1) bytes) in
    let after : drop m (drop (start + 1) bytes) ≡ drop end bytes = grind (arith, drop-drop m (start + 1) bytes) in
    let first = quote-first (get_or bytes start 0) m (drop (start + 1) bytes) is refl in
    let here = drop_more bytes start 0 inside in
    let all : run_size 0 (drop from bytes) ≡ cond (m == 0) 0 (start - from + (1 + m + run_size 0 (drop end bytes)))
    = elim (cases_Bool (get_or bytes from 0 == space)) [
      | inl blank ↦
          let next : start ≡ from + 1 = rw blank at at in
          grind (arith, nat_tests, first, here, after, next, drop_more bytes from 0 (omega arith))
      | inr other ↦
          let same : start ≡ from = omega (arith, rw other at at) in grind (arith, first, here, after, same)
    ] in
    grind (arith, nat_tests, all)
