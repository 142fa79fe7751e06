-- A run in which no byte is read and nothing fails.
use Rattle.std.specs.Prelude.{◌≡◌, ℕ, Bool, List, Some}
use Rattle.tangle_streams.specs.Streams.{Failed}
use Rattle.tangle_script.specs.Requests.{Request}
use Rattle.tangle_script.specs.Script.{Conversation}
use Rattle.tangle_script.specs.Endings.{ConversationEnds}

-- the reader still has the same bytes, which are known, and neither it nor the writer failed
pub record NothingIsReadAndNothingFails {State : Type 0}
    (old new : Conversation State) : Type 0 where
  pub script : List ℕ
  pub remaining : old.remaining ≡ Some script
  pub unread : new.remaining ≡ Some script
  pub no_reader_failure : Failed old.reader_failures new.reader_failures → ⊥
  pub no_writer_failure : Failed old.exchange.stream.failures new.exchange.stream.failures → ⊥

-- a run in which no byte is read and nothing fails does not end with status 3
abbrev pub Status3NeedsFailure : {State : Type 0} → (State → Request → List ℕ → State → Type 0)
    → (State → Bool → Type 0) → Type 0
Status3NeedsFailure {State} answers has_error =
    (old new : Conversation State)
    → NothingIsReadAndNothingFails old new → ConversationEnds answers has_error old new 3 → ⊥
