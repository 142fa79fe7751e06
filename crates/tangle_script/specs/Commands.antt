-- The bytes of a script: its lines, and the commands that have ended.
use Rattle.std.specs.Prelude.{◌≡◌, ℕ, ◌==◌, Bool, true, false, List, [], ◌∷◌, ◌++◌, Option, None}
use Rattle.std.specs.Prelude.{Some, if◌then◌else◌, ◌≤◌, ◌-◌, length, drop}
use Rattle.tangle_script.specs.Requests.{Command, takes_text}

-- the lines that end in these bytes; `before` is the beginning of the first line
abbrev pub ended : List ℕ → List ℕ → List (List ℕ)
ended before [] = []
ended before (b ∷ bs) = if b == 10 then before ∷ ended [] bs else ended (before ++ b ∷ []) bs

-- the bytes after the last line feed
abbrev pub unended : List ℕ → List ℕ → List ℕ
unended before [] = before
unended before (b ∷ bs) = if b == 10 then unended [] bs else unended (before ++ b ∷ []) bs

-- the command of a line that takes no text; an empty line is none
abbrev pub alone : List ℕ → List Command
alone [] = []
alone (b ∷ bs) = record { line = b ∷ bs; text = None } ∷ []

-- the commands of these lines; `head` is a line before them that waits for its text, if there is
-- one
abbrev pub commands_of : Option (List ℕ) → List (List ℕ) → List Command
commands_of head [] = []
commands_of None (line ∷ lines) =
    if takes_text line then commands_of (Some line) lines else alone line ++ commands_of None lines
commands_of (Some head) (line ∷ lines) =
    record { line = head; text = Some line } ∷ commands_of None lines

-- the line that still waits for its text after these lines, if there is one
abbrev pub waiting : Option (List ℕ) → List (List ℕ) → Option (List ℕ)
waiting head [] = head
waiting None (line ∷ lines) =
    if takes_text line then waiting (Some line) lines else waiting None lines
waiting (Some head) (line ∷ lines) = waiting None lines

-- the commands that have ended in the bytes read so far
abbrev pub ended_commands : List ℕ → List Command
ended_commands read = commands_of None (ended [] read)

-- these bytes, and before them the line that waits for its text, if there is one
abbrev pub after_waiting_line : Option (List ℕ) → List ℕ → List ℕ
after_waiting_line None rest = rest
after_waiting_line (Some head) rest = head ++ 10 ∷ rest

-- the bytes that wait until more is read: a line without its text, if there is one, and the bytes
-- after the last line feed
abbrev pub pending : List ℕ → List ℕ
pending read = after_waiting_line (waiting None (ended [] read)) (unended [] read)

-- the text at the end of a script, if there is one
abbrev pub last_text : List ℕ → Option (List ℕ)
last_text [] = None
last_text bytes = Some bytes

-- the command at the end of a script: that of the line that waits for its text, if there is one,
-- else that of a last line without a line feed
abbrev pub last_commands : Option (List ℕ) → List ℕ → List Command
last_commands None last = alone last
last_commands (Some head) last = record { line = head; text = last_text last } ∷ []

-- the commands of a whole script
abbrev pub all_commands : List ℕ → List Command
all_commands read =
    ended_commands read ++ last_commands (waiting None (ended [] read)) (unended [] read)

-- the command of a line, with its text if it takes one
abbrev pub found_commands : List ℕ → Option (List ℕ) → List Command
found_commands line None = alone line
found_commands line (Some text) = record { line = line; text = Some text } ∷ []

-- an empty line without a text is no command
abbrev pub is_no_command : List ℕ → Option (List ℕ) → Bool
is_no_command [] None = true
is_no_command _ _ = false

-- the bytes at the end of others
abbrev pub IsEnd : List ℕ → List ℕ → Type 0
IsEnd rest bytes =
    (length rest ≤ length bytes) × (rest ≡ drop (length bytes - length rest) bytes)

-- the line takes a text, and it has ended
abbrev pub Waits : Option (List ℕ) → Type 0
Waits None = Unit {0}
Waits (Some head) = (ended [] head ≡ []) × (takes_text head ≡ true)

-- no command has ended in these bytes: they are a line that waits for its text, if there is one,
-- and bytes without a line feed
pub record OnlyWaits (bytes : List ℕ) : Type 0 where
  pub head : Option (List ℕ)
  pub last : List ℕ
  pub waits : Waits head
  pub no_feed : ended [] last ≡ []
  pub are : bytes ≡ after_waiting_line head last
