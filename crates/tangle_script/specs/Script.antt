-- How the commands of a script are answered.
use Rattle.std.specs.Prelude.{◌≡◌, ◌⊎◌, ℕ, Bool, true, false, List, [], ◌∷◌, ◌++◌, codes, Option}
use Rattle.std.specs.Prelude.{Result, Ok, Err}
use Rattle.std.specs.List.{list_any}
use Rattle.tangle_streams.specs.Streams.{Stream, TakesAll, TakesPrefix}
use Rattle.tangle_script.specs.Requests.{Command, Request, is_edit, is_quit, request_of}

-- the states of a project and a writer at a moment
pub record Exchange (State : Type 0) : Type 0 where
  pub state : State
  pub stream : Stream

abbrev pub exchange : {State : Type 0} → State → Stream → Exchange State
exchange state stream = record { state = state; stream = stream }

-- the states of a project, a writer and a reader at a moment
pub record Conversation (State : Type 0) : Type 0 where
  pub exchange : Exchange State
  pub remaining : Option (List ℕ)
  pub reader_failures : ℕ

abbrev pub conversation : {State : Type 0}
    → State → Stream → Option (List ℕ) → ℕ → Conversation State
conversation state stream remaining reader_failures = record {
  exchange = exchange state stream;
  remaining = remaining;
  reader_failures = reader_failures;
}

-- An answer was written: the writer took all of it, or it failed and took a prefix of the answer.
abbrev pub WritesAnswer : {T E : Type 0} → Stream → Stream → List ℕ → Result T E → Type 0
WritesAnswer old new output (Ok done) = TakesAll old new output
WritesAnswer old new output (Err fault) = TakesPrefix old new output

-- whether a command ends the run
abbrev pub has_quit : List Command → Bool
has_quit commands = list_any (λ c. is_quit (request_of c)) commands

-- A project defines which output answers a request, and which state follows.
module _ {State : Type 0} (answers : State → Request → List ℕ → State → Type 0) where
  -- one answer: the project's own or, for an edit, that memory ran out, and then nothing changes
  abbrev pub IsAnswer : State → Request → List ℕ → State → Type 0
  IsAnswer s r output t =
      answers s r output t ⊎ ((is_edit r ≡ true) × (output ≡ codes "no NoMemory\n") × (t ≡ s))

  -- the answers to a list of commands, one after another
  abbrev pub Dialogue : State → List Command → List ℕ → State → Type 0
  Dialogue s [] output t = (output ≡ []) × (t ≡ s)
  Dialogue s (c ∷ cs) output t =
      (first rest : List ℕ) × (mid : State) × IsAnswer s (request_of c) first mid
      × Dialogue mid cs rest t × (output ≡ first ++ rest)

  -- these commands were answered; the writer has exactly the answers and did not fail
  pub record AreAnswered (old new : Exchange State) (commands : List Command) : Type 0 where
    pub output : List ℕ
    pub answered : Dialogue old.state commands output new.state
    pub written : TakesAll old.stream new.stream output

  -- they were answered, and none of them ends the run
  pub record GoesOn (old new : Exchange State) (commands : List Command) : Type 0 where
    pub is_answered : AreAnswered old new commands
    pub no_quit : has_quit commands ≡ false

  -- a command that ends the run was answered
  abbrev pub IsQuitAnswered : Command → Exchange State → Exchange State → Type 0
  IsQuitAnswered c old new = (is_quit (request_of c) ≡ true) × AreAnswered old new (c ∷ [])

  -- the writer failed in the answer to a command, and has a proper prefix of it
  abbrev pub IsAnswerCut : Command → Exchange State → Exchange State → Type 0
  IsAnswerCut c old new =
      (answer : List ℕ) × IsAnswer old.state (request_of c) answer new.state
      × TakesPrefix old.stream new.stream answer

  -- One of these commands is the last of the run, which ends there in this way. The commands before
  -- it were answered, and none of them ends the run.
  pub record HasLast (way : Command → Exchange State → Exchange State → Type 0)
      (old new : Exchange State) (commands : List Command) : Type 0 where
    pub front : List Command
    pub last : Command
    pub later : List Command
    pub are : commands ≡ front ++ last ∷ later
    pub before : Exchange State
    pub goes_on : GoesOn old before front
    pub at_last : way last before new

  -- the writer failed; it has the answers to the first commands, and a prefix of the next answer
  abbrev pub IsCut : Exchange State → Exchange State → List Command → Type 0
  IsCut old new commands = HasLast IsAnswerCut old new commands

  -- the commands up to the first `quit` were answered
  abbrev pub IsQuit : Exchange State → Exchange State → List Command → Type 0
  IsQuit old new commands = HasLast IsQuitAnswered old new commands
