-- A run over a script of short commands.
use Rattle.std.specs.Prelude.{◌≡◌, ◌<◌, ◌≤◌, ◌⊎◌, ℕ, ◌+◌, Bool, List, length, All, Option, None}
use Rattle.std.specs.Prelude.{Some}
use Rattle.tangle_streams.specs.Streams.{Failed}
use Rattle.tangle_script.specs.Requests.{Command, Request}
use Rattle.tangle_script.specs.Commands.{all_commands}
use Rattle.tangle_script.specs.Script.{Conversation}
use Rattle.tangle_script.specs.Endings.{ConversationEnds, short_command, script_limit}

abbrev pub text_size : Option (List ℕ) → ℕ
text_size None = 0
text_size (Some text) = length text + 1

-- the number of bytes of a command, with a line feed after its line and after its text
abbrev pub command_size : Command → ℕ
command_size c = length c.line + 1 + text_size c.text

-- each command of the script is short
abbrev pub HasShortCommands : List ℕ → Type 0
HasShortCommands script = All (λ c. command_size c ≤ short_command) (all_commands script)

-- the reader or the writer failed, or the script is too long
abbrev pub HasFailed : {State : Type 0} → Conversation State → Conversation State → List ℕ → Type 0
HasFailed old new script =
    Failed old.reader_failures new.reader_failures
    ⊎ (Failed old.exchange.stream.failures new.exchange.stream.failures
    ⊎ (script_limit < length script))

-- where a run over such a script ends with status 3, something failed or the script is too long:
-- memory did not run out
abbrev pub ShortNeedsNoMemory : {State : Type 0} → (State → Request → List ℕ → State → Type 0)
    → (State → Bool → Type 0) → Type 0
ShortNeedsNoMemory {State} answers has_error =
    (old new : Conversation State) (script : List ℕ)
    → old.remaining ≡ Some script → HasShortCommands script
    → ConversationEnds answers has_error old new 3 → HasFailed old new script
