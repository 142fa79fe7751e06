-- A run while it goes on, and the reasons for which it ends.
use Rattle.std.specs.Prelude.{◌≡◌, ℕ, Bool, List, length, Result, Ok, Err}
use Rattle.tangle_script.specs.Requests.{Command, Request}
use Rattle.tangle_script.specs.Commands.{ended_commands, pending}
use Rattle.tangle_script.specs.Script.{IsCut, IsQuitAnswered, IsAnswerCut, HasLast}
use Rattle.tangle_script.specs.Script.{AreAnswered, Conversation, Exchange, GoesOn}
use Rattle.tangle_script.specs.Endings.{AreRead, IsStatus, ConversationEnds}
use Rattle.tangle_script.specs.declared.answering.End.{End}
use Rattle.tangle_script.specs.declared.answering.End.TheVariants.{Done, Failed as IsFailed}

module _ {State : Type 0} (answers : State → Request → List ℕ → State → Type 0) where
  -- what happens at the last command of a run that ends for this reason before the script does
  abbrev pub ends_at : End → Command → Exchange State → Exchange State → Type 0
  ends_at Done = IsQuitAnswered answers
  ends_at IsFailed = IsAnswerCut answers

  -- these commands were answered, and the run goes on; or it ended at one of them
  abbrev pub EndsPart : {T : Type 0} → Result T End → Exchange State → Exchange State
      → List Command → Type 0
  EndsPart (Ok result) old new commands = GoesOn answers old new commands
  EndsPart (Err end) old new commands = HasLast answers (ends_at end) old new commands

  -- the commands at the end of a script were answered, or the writer failed
  abbrev pub EndsScript : End → Exchange State → Exchange State → List Command → Type 0
  EndsScript Done old new commands = AreAnswered answers old new commands
  EndsScript IsFailed old new commands = IsCut answers old new commands

  -- `count` bytes were read, the commands that ended in them are answered, and `buffered` is in the
  -- buffer
  pub record IsMidway (old now : Conversation State) (buffered : List ℕ) (count : ℕ) : Type 0 where
    pub read : List ℕ
    pub are_read : AreRead old now read
    pub counted : length read ≡ count
    pub goes_on : GoesOn answers old.exchange now.exchange (ended_commands read)
    pub buffered_is : buffered ≡ pending read

  -- how a run ends for this reason: where it is done, its status is that of its faults
  abbrev pub EndsBy : (State → Bool → Type 0) → End → Conversation State → Conversation State
      → Type 0
  EndsBy has_error Done old new =
      (status : ℕ) → IsStatus has_error new.exchange.state status
      → ConversationEnds answers has_error old new status
  EndsBy has_error IsFailed old new = ConversationEnds answers has_error old new 3
