-- How a read changes the bytes that a reader reports, and its count of failures.
use Rattle.std.specs.Prelude.{◌≡◌, ℕ, ◌<◌, List, length, take, Option, None, Some}
use Rattle.std.specs.Io.KnownBytes.{Consumes, IsAtEnd, Keeps}
use Rattle.tangle_streams.specs.Streams.{one_more_failure}

-- a read removes the bytes read from the front of the reported ones; a read of 0 bytes is the end,
-- unless the buffer is empty
abbrev pub Gives : Option (List ℕ) → Option (List ℕ) → List ℕ → Option ℕ → Type 0
Gives old new buffer None = Keeps old new
Gives old new buffer (Some n) =
    Consumes old new (take n buffer) × (n ≡ 0 → 0 < length buffer → IsAtEnd new)

-- the count of failures after a read: `None` adds one
abbrev pub counted_read : ℕ → Option ℕ → ℕ
counted_read failures None = one_more_failure failures
counted_read failures (Some n) = failures
