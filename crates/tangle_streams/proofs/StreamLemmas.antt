-- Consecutive writes append their bytes one after the other.
use Rattle.std.proofs.lemmas.Bool.Decides.{nat_tests}
use Rattle.std.proofs.Common.{rules}
use Rattle.std.proofs.Common.{◌≡◌, ℕ, ◌+◌, ◌-◌, ◌^◌, ◌<◌, ◌≤◌, inl, inr, List, [], ◌++◌}
use Rattle.std.proofs.Common.{length, take, drop, refl, sym, ap, ◌∙◌, append_assoc, append-nil, Option, Some, Ok}
use Rattle.std.proofs.Common.{Err, arith, length-append}
use Rattle.std.proofs.lemmas.List.{take-append-drop, length-take-le}
use Rattle.std.proofs.Math.Seq.{take-append_seam}
use Rattle.std.proofs.lemmas.Bool.{cases_lt, lt-ltb}
use Rattle.std.specs.Io.KnownBytes.{Appends, Keeps}
use Rattle.tangle_streams.specs.Streams.{Stream, Failed, IsWritten, one_more_failure, Takes, counted_write}

pub Appends-none : (a : Option (List ℕ)) → Appends a a []
Appends-none a = search (rules, append-nil)

pub Appends-append : (a b c : Option (List ℕ)) (xs ys : List ℕ)
    → Appends a b xs → Appends b c ys → Appends a c (xs ++ ys)
Appends-append a b c xs ys h k = search (rules, append_assoc)

pub Appends-kept : (a b c : Option (List ℕ)) (xs : List ℕ) → Appends a b xs → Keeps b c → Appends a c xs
Appends-kept a b c xs h k = search rules

pub Failed-one_more : (n : ℕ) → Failed n (one_more_failure n)
Failed-one_more n = elim (cases_lt n (2 ^ 64 - 1)) [ inl less ↦ inl (omega arith) | inr most ↦ inr (omega arith) ]

-- the state of the loop in `write_after`: the output and `front` are written, `rest` is not
pub record IsHalfway (old new : Stream) (count : ℕ) (output bytes rest : List ℕ) : Type 0 where
  pub front : List ℕ
  pub whole : bytes ≡ front ++ rest
  pub so_far : count ≡ length output + length front
  pub reported : Appends old.taken new.taken (output ++ front)
  pub unfailed : new.failures ≡ old.failures

pub halfway_at_first : (a b : Stream) (n : ℕ) (output bytes : List ℕ)
    → IsWritten a b output (Ok n) → IsHalfway a b n output bytes bytes
halfway_at_first a b n output bytes h = search rules

unfailed_at : {g g' : ℕ} (n : ℕ) (rest : List ℕ) → 0 < n → g' ≡ counted_write g rest (Some n) → g' ≡ g
unfailed_at n rest some e = grind (arith, nat_tests)

pub halfway_more : (a b c : Stream) (count n : ℕ) (output bytes rest : List ℕ)
    → IsHalfway a b count output bytes rest → 0 < n → n ≤ length rest → Takes b.taken c.taken rest (Some n)
    → c.failures ≡ counted_write b.failures rest (Some n)
    → IsHalfway a c (count + n) output bytes (drop n rest)
halfway_more a b c count n output bytes rest h some within reported failed = record {
  front = h.front ++ take n rest;
  whole =
      search (rules, take-append-drop, append_assoc);
  so_far = omega (arith, length-append h.front (take n rest), length-take-le n rest within);
  reported = search (rules, append_assoc);
  unfailed = unfailed_at n rest some failed ∙ h.unfailed;
}

pub halfway_at_end : (a b : Stream) (count : ℕ) (output bytes rest : List ℕ)
    → IsHalfway a b count output bytes rest → rest ≡ [] → IsWritten a b (output ++ bytes) (Ok count)
halfway_at_end a b count output bytes rest h none = search (rules, length-append)

pub halfway_fault : (a b c : Stream) (count : ℕ) (output bytes rest : List ℕ)
    → IsHalfway a b count output bytes rest → 0 < length rest → Keeps b.taken c.taken
    → c.failures ≡ one_more_failure b.failures
    → IsWritten a c (output ++ bytes) (Err (record { 0 = count }))
halfway_fault a b c count output bytes rest h some kept failed =
    let e : output ++ bytes ≡ (output ++ h.front) ++ rest =
    ap (λ l. output ++ l) h.whole ∙ sym (append_assoc output h.front rest) in
    let k : count ≡ length (output ++ h.front) = omega (arith, length-append output h.front) in
    search (rules, length-append, take-append_seam)

-- appending no bytes keeps the reported ones
pub Keeps-none : (a b : Option (List ℕ)) → Appends a b [] → Keeps a b
Keeps-none a b h = search rules

-- a write that takes no byte, although there are bytes, adds one to the count of failures
pub failed_at_none : (g g' n : ℕ) (rest : List ℕ)
    → n ≡ 0 → 0 < length rest → g' ≡ counted_write g rest (Some n) → g' ≡ one_more_failure g
failed_at_none g g' n rest none some e = cc (lt-ltb 0 (length rest) some)

-- the count of bytes written and the length of `rest` add up to all bytes
pub count_and_rest : (old new : Stream) (count : ℕ) (output bytes rest : List ℕ)
    → IsHalfway old new count output bytes rest → count + length rest ≡ length output + length bytes
count_and_rest old new count output bytes rest h = search (rules, length-append)

-- the empty output is written before any write
pub IsWritten-none : (a : Stream) → IsWritten a a [] (Ok 0)
IsWritten-none a = (refl, Appends-none a.taken, refl)
