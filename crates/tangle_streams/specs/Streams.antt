-- How a write changes the bytes that a writer reports, and its count of failures.
use Rattle.std.specs.Prelude.{◌≡◌, ℕ, ◌+◌, ◌-◌, ◌^◌, ◌<◌, ◌⊎◌, min, Bool, true, ◌&&◌, nat_lt, ◌==◌}
use Rattle.std.specs.Prelude.{if◌then◌else◌, List, ◌++◌, length, take, Option, None, Some, Result}
use Rattle.std.specs.Prelude.{Ok, Err}
use Rattle.std.specs.Io.KnownBytes.{Appends, Keeps}
use Rattle.tangle_streams.specs.declared.failures.WriteFault.{WriteFault}

-- the state of a writer: the bytes that it has taken, if it reports them, and its count of failures
pub record Stream : Type 0 where
  pub taken : Option (List ℕ)
  pub failures : ℕ

-- a count of failures plus one, saturating at 2^64 - 1
abbrev pub one_more_failure : ℕ → ℕ
one_more_failure n = min (n + 1) (2 ^ 64 - 1)

-- the writer failed: its count of failures grew, or is at the maximum
abbrev pub Failed : ℕ → ℕ → Type 0
Failed old new = (old < new) ⊎ (new ≡ 2 ^ 64 - 1)

-- the result of a write is a failure: `None`, or 0 although there are bytes
abbrev pub is_failure : List ℕ → Option ℕ → Bool
is_failure bytes None = true
is_failure bytes (Some n) = (n == 0) && nat_lt 0 (length bytes)

-- the count of failures after a write
abbrev pub counted_write : ℕ → List ℕ → Option ℕ → ℕ
counted_write failures bytes count =
    if is_failure bytes count then one_more_failure failures else failures

-- a write of `n` bytes appends the first `n` bytes to the reported ones, and `None` appends nothing
abbrev pub Takes : Option (List ℕ) → Option (List ℕ) → List ℕ → Option ℕ → Type 0
Takes old new bytes None = Keeps old new
Takes old new bytes (Some n) = Appends old new (take n bytes)

-- the writer took all of these bytes, and did not fail
abbrev pub TakesAll : Stream → Stream → List ℕ → Type 0
TakesAll old new bytes = Appends old.taken new.taken bytes × (new.failures ≡ old.failures)

-- the writer took a proper prefix of these bytes, and failed
abbrev pub TakesPrefix : Stream → Stream → List ℕ → Type 0
TakesPrefix old new bytes =
    (n : ℕ) × (n < length bytes) × Appends old.taken new.taken (take n bytes)
    × Failed old.failures new.failures

-- The result of writing an output. `Ok` holds the length of the output, all of which was taken.
-- An error holds the length of the proper prefix that the writer took before it failed.
-- The definition does not use TakesAll and TakesPrefix: each proof would go one level deeper.
abbrev pub IsWritten : Stream → Stream → List ℕ → Result ℕ WriteFault → Type 0
IsWritten old new output (Ok n) =
    (n ≡ length output) × Appends old.taken new.taken output × (new.failures ≡ old.failures)
IsWritten old new output (Err e) =
    (e.0 < length output)
    × Appends old.taken new.taken (take e.0 output)
    × Failed old.failures new.failures

-- if `so_far` is the result of writing an output, `result` is that of writing it and then `bytes`
abbrev pub IsWrittenAfter : Stream → Stream → Result ℕ WriteFault → List ℕ → Result ℕ WriteFault
    → Type 0
IsWrittenAfter now new so_far bytes result =
    (old : Stream) (output : List ℕ) → IsWritten old now output so_far
    → length output + length bytes < 2 ^ 128 → IsWritten old new (output ++ bytes) result
