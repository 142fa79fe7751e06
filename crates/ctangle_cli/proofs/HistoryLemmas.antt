-- The answered commands of a script extend a history.
use Rattle.std.proofs.Common.{List, [], ◌∷◌, ◌++◌, sym, subst, append_assoc, append-nil, inl, inr}
use Rattle.std.specs.Prelude.{ℕ}
use Rattle.std.proofs.Common.{rules}
use Rattle.tangle_files.specs.Lines.{FileTable}
use Rattle.tangle_files.specs.Roles.{RolesRead}
use Rattle.tangle_script.specs.Requests.{Command, Request, request_of}
use Rattle.tangle_script.specs.Endings.{ConversationEnds}
use Rattle.tangle_script.specs.Endings.ConversationEnds.{IsAtQuit, IsUnwritten}
use Rattle.tangle_script.specs.Script.{AreAnswered, Conversation, Dialogue, Exchange, IsCut, IsAnswer}
use Rattle.tangle_session.specs.Headline.{Call, History, Started, Answered, IsStarted}
use Rattle.tangle_session.specs.Sessions.{SessionRead}
use Rattle.ctangle_cli.specs.Conversation.{HasError, HistoryFrom, SessionAndDraft, answers}
use Rattle.ctangle_cli.specs.Conversation.{calls_of, calls_of_answer, calls_of_answers}
use Rattle.ctangle_cli.specs.Conversation.{calls_of_conversation, calls_until_cut}

module _ (files : FileTable) (roles : RolesRead) where
  -- calls that are answered go on with a history
  and_then : (calls more : List Call) (s t : SessionRead) → History files roles calls s
      → HistoryFrom s more t → History files roles (calls ++ more) t
  and_then calls [] s t history same = rw (same, append-nil calls) history
  and_then calls (call ∷ more) s t history made =
      rw (← append_assoc calls (call ∷ []) more)
      (and_then (calls ++ call ∷ []) more made.0 t (Answered s call history made.1) made.2)

  replied : (calls : List Call) (s t : SessionAndDraft) (request : Request) (output : List ℕ)
      → History files roles calls s.session → (reply : IsAnswer answers s request output t)
      → History files roles (calls ++ calls_of_answer reply) t.session
  replied calls s t request output history (inl a) = and_then calls a.0 s.session t.session history a.2
  replied calls s t request output history (inr short) = rw (short.2, append-nil calls) history

  pub goes_on : (calls : List Call) (s t : SessionAndDraft) (commands : List Command) (output : List ℕ)
      → History files roles calls s.session → (dialogue : Dialogue answers s commands output t)
      → History files roles (calls ++ calls_of s t commands output dialogue) t.session
  goes_on calls s t [] output history d = rw (d.1, append-nil calls) history
  goes_on calls s t (command ∷ commands) output history d =
      rw (← append_assoc) (goes_on (calls ++ calls_of_answer d.3) d.2 t commands d.1
      (replied calls s d.2 (request_of command) d.0 history d.3) d.4)

  -- so do the answers of a whole conversation
  module _ (calls : List Call) where
    all : {old new : Exchange SessionAndDraft} {commands : List Command} → History files roles calls old.state.session
        → (a : AreAnswered answers old new commands)
        → History files roles (calls ++ calls_of_answers a) new.state.session
    all {old} {new} {commands} history a = goes_on calls old.state new.state commands a.output history a.answered

    cut : {old new : Exchange SessionAndDraft} {commands : List Command} → History files roles calls old.state.session
        → (is : IsCut answers old new commands)
        → History files roles (calls ++ calls_until_cut is) new.state.session
    cut {old} {new} history is =
        let front = calls_of_answers is.goes_on.is_answered in
        rw (← append_assoc)
        (replied (calls ++ front) is.before.state new.state (request_of is.last) is.at_last.0
        (all history is.goes_on.is_answered) is.at_last.1)

  pub ends_go_on : (calls : List Call) {old new : Conversation SessionAndDraft} {status : ℕ}
      → History files roles calls old.exchange.state.session
      → (ends : ConversationEnds answers HasError old new status)
      → History files roles (calls ++ calls_of_conversation ends) new.exchange.state.session
  ends_go_on calls {new = new} history (IsAtQuit read are quit is) =
      let front = calls_of_answers quit.goes_on.is_answered in
      rw (← append_assoc)
      (all (calls ++ front) (all calls history quit.goes_on.is_answered) quit.at_last.1)
  ends_go_on calls history (IsUnwritten read are (inl now) is) = cut calls history now
  ends_go_on calls history (IsUnwritten read are (inr last) is) = cut calls history last.2
  ends_go_on calls history ends = search (rules, all)

-- a session that is started is a history of its own files
pub from_start : (files : FileTable) (roles : RolesRead) (session : SessionRead) → IsStarted files roles session
    → History session.files session.roles [] session
from_start files roles session is =
    subst (λ (x : FileTable × RolesRead). History x.0 x.1 [] session)
    (λ i. ((sym is.files_are) i, (sym is.roles_are) i)) (Started is)
