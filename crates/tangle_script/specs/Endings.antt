-- How a run over a script ends.
use Rattle.std.specs.Prelude.{◌≡◌, ◌<◌, ◌≤◌, ◌⊎◌, ℕ, Bool, false, List, [], ◌∷◌, ◌++◌, length}
use Rattle.std.specs.Prelude.{if◌then◌else◌}
use Rattle.std.specs.Io.KnownBytes.{Consumes, IsAtEnd}
use Rattle.tangle_streams.specs.Streams.{Failed}
use Rattle.tangle_script.specs.Requests.{Request}
use Rattle.tangle_script.specs.Commands.{all_commands, ended_commands, pending}
use Rattle.tangle_script.specs.Script.{IsCut, IsQuit, AreAnswered, Conversation, GoesOn, has_quit}

-- the most bytes that a script may have
abbrev pub script_limit : ℕ
script_limit = 67108864

-- the most bytes of a command, with its line feeds, for which a run allocates nothing
abbrev pub short_command : ℕ
short_command = 4096

-- the status of a run that came to its end, by whether an error is among the faults
abbrev pub status_by : Bool → ℕ
status_by has_error = if has_error then 1 else 0

-- the status of a run that came to its end in this state, by the faults of the state
abbrev pub IsStatus : {State : Type 0} → (State → Bool → Type 0) → State → ℕ → Type 0
IsStatus has_error state status =
    (error : Bool) × has_error state error × (status ≡ status_by error)

-- the writer failed in the answer to a command that had ended in these bytes or, at the end of the
-- script, to the last command
abbrev pub IsCutIn : {State : Type 0} → (State → Request → List ℕ → State → Type 0)
    → Conversation State → Conversation State → List ℕ → Type 0
IsCutIn answers old new read =
    IsCut answers old.exchange new.exchange (ended_commands read)
    ⊎ (IsAtEnd new.remaining × (has_quit (ended_commands read) ≡ false)
    × IsCut answers old.exchange new.exchange (all_commands read))

-- these bytes were read, no more than a script may have, and the reader did not fail
pub record AreRead {State : Type 0} (old new : Conversation State) (read : List ℕ) : Type 0 where
  pub given : Consumes old.remaining new.remaining read
  pub within : length read ≤ script_limit
  pub no_failure : new.reader_failures ≡ old.reader_failures

-- How a run ends, by the bytes that were read of the script.
pub data ConversationEnds {State : Type 0} (answers : State → Request → List ℕ → State → Type 0)
    (has_error : State → Bool → Type 0) (old new : Conversation State) (status : ℕ) : Type 0 where
  -- status 0 or 1: a `quit` was read, and all commands up to it are answered
  IsAtQuit : (read : List ℕ) → AreRead old new read
      → IsQuit answers old.exchange new.exchange (ended_commands read)
      → IsStatus has_error new.exchange.state status
      → ConversationEnds answers has_error old new status
  -- status 0 or 1: the script came to its end, and all its commands are answered
  IsAtInputEnd : (read : List ℕ) → AreRead old new read
      → IsAtEnd new.remaining → has_quit (ended_commands read) ≡ false
      → AreAnswered answers old.exchange new.exchange (all_commands read)
      → IsStatus has_error new.exchange.state status
      → ConversationEnds answers has_error old new status
  -- status 3: the reader failed, and the commands that had ended are answered
  IsUnread : (read : List ℕ)
      → Consumes old.remaining new.remaining read → length read ≤ script_limit
      → Failed old.reader_failures new.reader_failures
      → GoesOn answers old.exchange new.exchange (ended_commands read)
      → status ≡ 3 → ConversationEnds answers has_error old new status
  -- status 3: a byte came after the most bytes that a script may have, and the commands that had
  -- ended are answered
  IsTooLong : (read : List ℕ) (more : ℕ) → Consumes old.remaining new.remaining (read ++ more ∷ [])
      → length read ≡ script_limit → new.reader_failures ≡ old.reader_failures
      → GoesOn answers old.exchange new.exchange (ended_commands read)
      → status ≡ 3 → ConversationEnds answers has_error old new status
  -- status 3: the writer failed in the answer to a command that had ended, or to the last one at
  -- the end of the script
  IsUnwritten : (read : List ℕ) → AreRead old new read
      → IsCutIn answers old new read → status ≡ 3
      → ConversationEnds answers has_error old new status
  -- status 3: memory ran out for a command that is longer than a short one, and the commands that
  -- had ended are answered
  IsOutOfMemory : (read : List ℕ) → AreRead old new read
      → short_command < length (pending read)
      → GoesOn answers old.exchange new.exchange (ended_commands read)
      → status ≡ 3 → ConversationEnds answers has_error old new status
