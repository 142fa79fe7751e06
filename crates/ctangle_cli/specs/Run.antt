-- How a run ends, by what the folder and the streams report before and after it.
use Rattle.std.specs.Prelude.{◌≡◌, ◌≢◌, ◌⊎◌, ℕ, List, ◌∷◌, ◌++◌, codes, Option, None, Some, Ok, Err}
use Rattle.clap.specs.Words.{Text}
use Rattle.tangle_streams.specs.Streams.{Stream, Failed, TakesAll, TakesPrefix}
use Rattle.tangle_files.specs.Lines.{FileTable}
use Rattle.tangle_files.specs.Roles.{RolesRead}
use Rattle.tangle_faults.specs.Faults.{FaultRead}
use Rattle.tangle_script.specs.Endings.{ConversationEnds}
use Rattle.tangle_script.specs.Script.{Conversation}
use Rattle.tangle_session.specs.Headline.{History, IsStarted, faults_at, output_files}
use Rattle.tangle_session.specs.Sessions.{SessionRead}
use Rattle.tangle_folders.specs.declared.folder.FolderFault.{FolderFault}
use Rattle.tangle_folders.specs.declared.folder.FolderFault.TheVariants.{NoMemory}
use Rattle.tangle_folders.specs.Folder.{File, FolderRead, with_created}
use Rattle.ctangle_cli.specs.Writing.{AddsPrefix}
use Rattle.ctangle_cli.specs.Arguments.{names_by_arguments}
use Rattle.ctangle_cli.specs.Conversation.{HasError, SessionAndDraft, answers}
use Rattle.ctangle_cli.specs.Conversation.{calls_of_conversation}
use Rattle.ctangle_cli.specs.RetangleArguments.{retangle_names_of}
use Rattle.tangle_loading.specs.Loading.{LoadEnd}
use Rattle.tangle_loading.specs.Loading.LoadEnd.{NoMemory as LoadMemory}
use Rattle.tangle_loading.specs.Endings.{LoadGives}
use Rattle.ctangle_cli.specs.Messages.{usage_line, ending_line, unwritten_line}
use Rattle.ctangle_cli.specs.Messages.{fault_lines, faults_status}
use Rattle.ctangle_cli.specs.WhatTheCompilerReads.{OutputsAreReadAsWritten}
use Rattle.ctangle_cli.specs.WhatTheCompilerReads.{OutputsStayReadAsWritten}

-- what the folder and the error stream report at a moment
pub record Moment : Type 0 where
  pub folder : FolderRead
  pub stream : Stream

abbrev pub moment : FolderRead → Stream → Moment
moment folder stream = record { folder = folder; stream = stream }

-- a stream took these bytes, or failed and took a prefix of them
abbrev pub TriesToWrite : Stream → Stream → List ℕ → Type 0
TriesToWrite old new bytes = TakesAll old new bytes ⊎ TakesPrefix old new bytes

-- the folder is asked for no file, and so fails at none
abbrev pub AsksNothing : Moment → Moment → Type 0
AsksNothing old new =
    (new.folder.asked ≡ old.folder.asked) × (new.folder.failed ≡ old.folder.failed)

-- the folder is not used: nothing is created in it, it is asked for nothing, and it does not fail
abbrev pub LeavesFolder : Moment → Moment → Type 0
LeavesFolder old new =
    (new.folder.created ≡ old.folder.created) × AsksNothing old new
    × (new.folder.failures ≡ old.folder.failures)

-- Each output before the one of this name is created whole. Of this one a prefix is created: no
-- file, or a file with a prefix of its bytes; no file where memory ran out. No later output is
-- created.
pub record StopsAt (outputs : List File) (old new : Option (List File))
    (name : List ℕ) (fault : FolderFault) : Type 0 where
  pub before : List File
  pub bytes : List ℕ
  pub after : List File
  pub split : outputs ≡ before ++ (name, bytes) ∷ after
  pub created : AddsPrefix (with_created old before) new (name, bytes)
  pub no_prefix : fault ≡ NoMemory → new ≡ with_created old before

-- Writing the outputs stopped at one of them, because the folder or an allocation failed. The lines
-- of the faults were written before, and then the line of this output, or a prefix of it.
pub record IsStopped (outputs : List File) (faults : List FaultRead)
    (old new : Moment) : Type 0 where
  pub name : List ℕ
  pub fault : FolderFault
  pub stops : StopsAt outputs old.folder.created new.folder.created name fault
  pub why : fault ≢ NoMemory → Failed old.folder.failures new.folder.failures
  pub no_failure : fault ≡ NoMemory → new.folder.failures ≡ old.folder.failures
  -- the error stream when the lines of the faults are written
  pub between : Stream
  pub faults_reported : TakesAll old.stream between (fault_lines faults)
  pub output_reported : TriesToWrite between new.stream (unwritten_line fault name)

-- how a run ends after tangling has given these output files and faults
pub data TangledEnds (outputs : List File) (faults : List FaultRead)
    (old new : Moment) (status : ℕ) : Type 0 where
  -- status 0 or 1: the lines of the faults are written, and just the outputs are created
  IsDone : TakesAll old.stream new.stream (fault_lines faults)
      → new.folder.created ≡ with_created old.folder.created outputs
      → new.folder.failures ≡ old.folder.failures → status ≡ faults_status faults
      → TangledEnds outputs faults old new status
  -- status 3: the error stream fails while the lines of the faults are written; no file is created
  IsCutAtFaults : TakesPrefix old.stream new.stream (fault_lines faults) → LeavesFolder old new
      → status ≡ 3 → TangledEnds outputs faults old new status
  -- status 3: an output can't be written
  IsUnwritten : IsStopped outputs faults old new → status ≡ 3
      → TangledEnds outputs faults old new status

-- how a run ends after it has started a session of these files
pub record SessionEnds (files : FileTable) (roles : RolesRead)
    (old new : Moment) (status : ℕ) : Type 0 where
  pub ends : TangledEnds (output_files files roles) (faults_at files roles) old new status
  pub asks_nothing : AsksNothing old new

-- the files of these names are loaded, and a session of them is started; nothing is written
pub record StartsSession (roles : RolesRead) (old new : Moment) (session : SessionRead) : Type 0 where
  pub files : FileTable
  pub loads : LoadGives roles old.folder new.folder (Ok files)
  pub started : IsStarted files roles session
  pub unwritten : new.stream ≡ old.stream

-- how a run of this program ends that starts no session; `names` are those that its arguments give
pub data EndsUnstarted (program usage : List ℕ) (names : Option RolesRead)
    (old new : Moment) (status : ℕ) : Type 0 where
  -- status 2: the arguments give no names, and the usage is written
  IsMisused : names ≡ None → TakesAll old.stream new.stream usage → LeavesFolder old new
      → status ≡ 2 → EndsUnstarted program usage names old new status
  -- status 3: they give none, and the error stream fails at the usage
  IsCutAtUsage : names ≡ None → TakesPrefix old.stream new.stream usage → LeavesFolder old new
      → status ≡ 3 → EndsUnstarted program usage names old new status
  -- status 3: memory runs out while the arguments are read
  IsUnnamed : TriesToWrite old.stream new.stream (ending_line program LoadMemory)
      → LeavesFolder old new → status ≡ 3 → EndsUnstarted program usage names old new status
  -- status 3: a file can't be read, or is refused, or memory runs out, maybe after loading
  IsUnloaded : (roles : RolesRead) (ending : LoadEnd) → names ≡ Some roles
      → LoadGives roles old.folder new.folder (Err ending)
      → TriesToWrite old.stream new.stream (ending_line program ending) → status ≡ 3
      → EndsUnstarted program usage names old new status

-- how a run of `ctangle` ends
pub data RunEnds (arguments : List (List ℕ)) (old new : Moment) (status : ℕ) : Type 0 where
  -- status 2 or 3: no session is started
  IsUnstarted : EndsUnstarted (codes "ctangle") usage_line (names_by_arguments arguments) old new
      status → RunEnds arguments old new status
  -- status 0, 1 or 3: a session is started, which gives the faults and the outputs; a C compiler
  -- reads each output as the author wrote it
  IsTangled : (roles : RolesRead) (started : Moment) (session : SessionRead)
      → names_by_arguments arguments ≡ Some roles → StartsSession roles old started session
      → SessionEnds session.files session.roles started new status
      → OutputsAreReadAsWritten session.files session.roles → RunEnds arguments old new status

-- How a run of `retangle` ends. `before` and `after` give the conversation at its two ends, for each
-- state of a session: what the writer of the answers and the reader of the script report then.
pub data RetangleEnds (arguments : List Text) (old new : Moment)
    (before after : SessionAndDraft → Conversation SessionAndDraft) (status : ℕ) : Type 0 where
  -- status 2 or 3: no session is started, nothing of the script is read, and nothing is answered;
  -- the usage is clap's
  IsUnanswered : (usage : List ℕ)
      → EndsUnstarted (codes "retangle") usage (retangle_names_of arguments) old new status
      → after ≡ before → RetangleEnds arguments old new before after status
  -- status 0, 1 or 3: a session is started, which answers the script; the calls of the answers are
  -- a history, at whose end is the last session. A C compiler reads each output as the author wrote
  -- it, in the first session and after any calls.
  IsConversation : (roles : RolesRead) (session : SessionRead) (last : SessionAndDraft)
      → retangle_names_of arguments ≡ Some roles → StartsSession roles old new session
      → (ends : ConversationEnds answers HasError
      (before (record { session = session; draft = None })) (after last) status)
      → History session.files session.roles (calls_of_conversation ends) last.session
      → OutputsStayReadAsWritten session.files session.roles
      → RetangleEnds arguments old new before after status
