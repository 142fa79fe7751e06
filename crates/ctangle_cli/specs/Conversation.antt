-- How a session answers the requests of a script.
use Rattle.std.specs.Prelude.{◌≡◌, ◌+◌, ℕ, Bool, List, [], ◌∷◌, ◌++◌, codes, decimal, length}
use Rattle.std.specs.Prelude.{Option, None, Some, Result, Ok, Err, false, is_some, not}
use mathlib.Core.Logic.{inl, inr}
use Rattle.std.specs.Global.{Global}
use Rattle.std.specs.List.{list_any}
use Rattle.std.specs.Option.{option_map}
use Rattle.std.specs.declared.vec.Vec.{Vec}
use Rattle.tangle_faults.specs.Faults.{FaultRead, is_error}
use Rattle.tangle_files.specs.declared.edits.Edit.{Edit}
use Rattle.tangle_files.specs.declared.edits.Edit.TheVariants as edit
use Rattle.tangle_files.specs.declared.marks.MarkMode.{MarkMode}
use Rattle.tangle_files.specs.declared.marks.MarkMode.TheVariants.{Full, Bare}
use Rattle.tangle_files.specs.declared.refusal.Refusal.{Refusal}
use Rattle.tangle_files.specs.declared.refusal.Refusal.TheVariants as refusal
use Rattle.tangle_script.specs.Requests.{Command, Request, is_edit}
use Rattle.tangle_script.specs.Requests.Request.{Insert, Replace, Remove, Create, Discard}
use Rattle.tangle_script.specs.Requests.Request.{Show, MarksFull, MarksNone, Begin, Commit, Cancel}
use Rattle.tangle_script.specs.Requests.Request.{Faults, Work, Quit}
use Rattle.tangle_script.specs.Script.{AreAnswered, Conversation, Dialogue, Exchange, IsAnswer}
use Rattle.tangle_script.specs.Script.{IsCut}
use Rattle.tangle_script.specs.Endings.{ConversationEnds}
use Rattle.tangle_script.specs.Endings.ConversationEnds.{IsAtQuit, IsAtInputEnd, IsUnread}
use Rattle.tangle_script.specs.Endings.ConversationEnds.{IsTooLong, IsUnwritten, IsOutOfMemory}
use Rattle.tangle_session.specs.Headline.{Call, Apply, ApplyAll, IsAnswered, faults_at, output_at}
use Rattle.tangle_session.specs.Sessions.{SessionRead}
use Rattle.tangle_session.specs.declared.refusing.ListRefusal.{ListRefusal}
use Rattle.ctangle_cli.specs.Messages.{fault_lines, refusal_name}
use Rattle.ctangle_cli.specs.declared.conversation.Accepted.{Accepted}
use Rattle.ctangle_cli.specs.declared.conversation.Accepted.TheVariants.{Made, Held}

-- a session, and the list of edits that is open, if there is one
pub record SessionAndDraft : Type 0 where
  pub session : SessionRead
  pub draft : Option (List Edit)

abbrev pub session_and_draft : SessionRead → Option (Vec Edit Global) → SessionAndDraft
session_and_draft session draft =
    record { session = session; draft = option_map (λ d. d.items) draft }

abbrev pub marks_request : MarkMode → Request
marks_request Full = MarksFull
marks_request Bare = MarksNone

-- the request that asks for an edit
abbrev pub request_for : Edit → Request
request_for (edit.Insert file at text) = Insert at file.items text.items
request_for (edit.Replace file at text) = Replace at file.items text.items
request_for (edit.Remove file at) = Remove at file.items
request_for (edit.Create file) = Create file.items
request_for (edit.Discard file) = Discard file.items
request_for (edit.Marks mode) = marks_request mode

abbrev pub refused_line : Refusal → List ℕ
refused_line refusal = codes "no " ++ refusal_name refusal ++ codes "\n"

-- the answer to an edit that was passed to the session
abbrev pub one_line : Result (Unit {0}) Refusal → List ℕ
one_line (Ok done) = codes "ok\n"
one_line (Err refusal) = refused_line refusal

-- the answer to an edit, which was made, or is held in the open list, or is refused
abbrev pub edit_line : Result Accepted Refusal → List ℕ
edit_line (Ok Made) = codes "ok\n"
edit_line (Ok Held) = codes "held\n"
edit_line (Err refusal) = refused_line refusal

-- the number, from 1, of the edit for which the list is refused; 0 where memory ran out
abbrev pub edit_number_of : Refusal → ℕ → ℕ
edit_number_of refusal.NoMemory at = 0
edit_number_of _ at = at + 1

abbrev pub edit_number : ListRefusal → ℕ
edit_number refused = edit_number_of refused.refusal refused.at

abbrev pub list_refused_line : ListRefusal → List ℕ
list_refused_line refused =
    codes "no " ++ refusal_name refused.refusal ++ codes " " ++ decimal (edit_number refused)
    ++ codes "\n"

-- the answer to a list of edits
abbrev pub list_line : {T : Type 0} → Result T ListRefusal → List ℕ
list_line (Ok done) = codes "ok\n"
list_line (Err refused) = list_refused_line refused

-- the answer that shows the output file of this name, or says that there is none
abbrev pub shown : List ℕ → Option (List ℕ) → List ℕ
shown name None = codes "no NoOutput\n"
shown name (Some bytes) =
    codes "= " ++ name ++ codes " " ++ decimal (length bytes) ++ codes "\n" ++ bytes

-- the answer that has the number of faults, and their lines
abbrev pub listed_faults : List FaultRead → List ℕ
listed_faults faults =
    codes "faults " ++ decimal (length faults) ++ codes "\n" ++ fault_lines faults

-- whether the request opens, makes or drops a list, and may do so: `Begin` while no list is open,
-- the others while one is
abbrev pub is_of_list : Option (List Edit) → Request → Bool
is_of_list draft Begin = not (is_some draft)
is_of_list draft Commit = is_some draft
is_of_list draft Cancel = is_some draft
is_of_list draft _ = false

-- The answer to a question, which comes from the session, whether a list is open or not; that to
-- `quit`, and that to a bad command.
abbrev pub Reports : SessionRead → Request → List ℕ → Type 0
Reports s (Show file) output = output ≡ shown file (output_at s.files s.roles file)
Reports s Faults output = output ≡ listed_faults (faults_at s.files s.roles)
Reports s Work output = output ≡ codes "work " ++ decimal (length s.work) ++ codes "\n"
Reports s Quit output = output ≡ codes "ok\n"
Reports s _ output = output ≡ codes "no BadCommand\n"

-- The output is the reply to a request. The request makes these calls of the session, one or none,
-- and takes the open list of edits, if there is one, from the first state to the second.
pub data IsReply (session : SessionRead) (request : Request) (output : List ℕ) :
    Option (List Edit) → List Call → Option (List Edit) → Type 0 where
  -- an edit is passed to the session while no list is open
  IsEdit : (edit : Edit) (answer : Result (Unit {0}) Refusal)
      → request_for edit ≡ request → output ≡ one_line answer
      → IsReply session request output None (Apply edit answer ∷ []) None
  -- else it is added at the end of the open list
  IsHeld : (held : List Edit) (edit : Edit) → request_for edit ≡ request → output ≡ codes "held\n"
      → IsReply session request output (Some held) [] (Some (held ++ edit ∷ []))
  -- a list is opened
  IsOpened : request ≡ Begin → output ≡ codes "ok\n"
      → IsReply session request output None [] (Some [])
  -- the open list is passed to the session, and is closed
  IsCommitted : (held : List Edit) (answer : Result (Unit {0}) ListRefusal) → request ≡ Commit
      → output ≡ list_line answer
      → IsReply session request output (Some held) (ApplyAll held answer ∷ []) None
  -- the open list is dropped
  IsDropped : (held : List Edit) → request ≡ Cancel → output ≡ codes "ok\n"
      → IsReply session request output (Some held) [] None
  -- the request neither asks for an edit nor changes the open list
  IsReported : (draft : Option (List Edit)) → is_edit request ≡ false
      → is_of_list draft request ≡ false → Reports session request output
      → IsReply session request output draft [] draft

-- a history from `s` on: the calls are answered one after another, and `t` is the state then
abbrev pub HistoryFrom : SessionRead → List Call → SessionRead → Type 0
HistoryFrom s [] t = t ≡ s
HistoryFrom s (call ∷ calls) t =
    (between : SessionRead) × IsAnswered s call between × HistoryFrom between calls t

-- the output answers the request, which takes the session with its open list from `s` to `t`
abbrev pub answers : SessionAndDraft → Request → List ℕ → SessionAndDraft → Type 0
answers s request output t =
    (calls : List Call) × IsReply s.session request output s.draft calls t.draft
    × HistoryFrom s.session calls t.session

-- the calls of the answer to a request: none where memory ran out for an edit
abbrev pub calls_of_answer : {s t : SessionAndDraft} {request : Request} {output : List ℕ}
    → IsAnswer answers s request output t → List Call
calls_of_answer (inl answered) = answered.0
calls_of_answer (inr short) = []

-- the calls of the answers to these commands, one after another
abbrev pub calls_of : (s t : SessionAndDraft) (commands : List Command) (output : List ℕ)
    → Dialogue answers s commands output t → List Call
calls_of s t [] output dialogue = []
calls_of s t (command ∷ commands) output dialogue =
    calls_of_answer dialogue.3 ++ calls_of dialogue.2 t commands dialogue.1 dialogue.4

-- the calls of the answers that were written
abbrev pub calls_of_answers : {old new : Exchange SessionAndDraft} {commands : List Command}
    → AreAnswered answers old new commands → List Call
calls_of_answers {old} {new} {commands} a =
    calls_of old.state new.state commands a.output a.answered

-- the calls of the answers up to one in which the writer failed; that one is carried out, too
abbrev pub calls_until_cut : {old new : Exchange SessionAndDraft} {commands : List Command}
    → IsCut answers old new commands → List Call
calls_until_cut cut =
    calls_of_answers cut.goes_on.is_answered ++ calls_of_answer cut.at_last.1

-- whether an error is among the faults of the files
abbrev pub HasError : SessionAndDraft → Bool → Type 0
HasError s error = error ≡ list_any is_error (faults_at s.session.files s.session.roles)

-- the calls of the answers in a conversation
abbrev pub calls_of_conversation : {old new : Conversation SessionAndDraft} {status : ℕ}
    → ConversationEnds answers HasError old new status → List Call
calls_of_conversation (IsAtQuit read are quit is) =
    calls_of_answers quit.goes_on.is_answered ++ calls_of_answers quit.at_last.1
calls_of_conversation (IsAtInputEnd read are end on all is) = calls_of_answers all
calls_of_conversation (IsUnread read given within failed on is) = calls_of_answers on.is_answered
calls_of_conversation (IsTooLong read more given long calm on is) = calls_of_answers on.is_answered
calls_of_conversation (IsUnwritten read are (inl now) is) = calls_until_cut now
calls_of_conversation (IsUnwritten read are (inr last) is) = calls_until_cut last.2
calls_of_conversation (IsOutOfMemory read are long on is) = calls_of_answers on.is_answered
