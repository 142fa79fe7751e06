-- The state that a history leaves: the files with the accepted edits made, and its work.
use Rattle.std.proofs.Common.{arith}
use Rattle.std.proofs.Common.{rules}
use Rattle.std.proofs.lemmas.Bool.Decides.{nat_tests}
use Rattle.std.proofs.Common.{◌≡◌, List, [], ◌∷◌, ◌++◌, refl, ap, sym, subst, append_assoc, append-nil}
use Rattle.std.specs.Prelude.{Ok, Result, length}
use Rattle.tangle_files.specs.Edited.{edited, edited_all, edited_roles, joined, roles_after}
use Rattle.tangle_files.specs.Lines.{FileTable}
use Rattle.tangle_files.specs.Roles.{RolesRead}
use Rattle.tangle_files.specs.declared.edits.Edit.{Edit}
use Rattle.tangle_session.specs.Headline.{AreMade, Call, Apply, ApplyAll, History, Started, Answered, IsAnswered}
use Rattle.tangle_session.specs.Headline.{ByStart, ByLast, HasMade, list_calls}
use Rattle.tangle_session.specs.Headline.{accepted, files_after, roles_with}
use Rattle.tangle_session.specs.Sessions.{SessionRead}
use Rattle.tangle_session.specs.declared.refusing.ListRefusal.{ListRefusal}

accepted-append : (calls more : List Call)
    → accepted (calls ++ more) ≡ accepted calls ++ accepted more
accepted-append [] more = refl
accepted-append (c ∷ calls) more = grind (arith, nat_tests, accepted-append calls more)

files_then : (files : FileTable) (first then : List Edit)
    → edited_all files (first ++ then) ≡ edited_all (edited_all files first) then
files_then files [] then = refl
files_then files (edit ∷ first) then = files_then (edited files edit) first then

roles_then : (roles : RolesRead) (first then : List Edit)
    → roles_after roles (first ++ then) ≡ roles_after (roles_after roles first) then
roles_then roles [] then = refl
roles_then roles (edit ∷ first) then = roles_then (edited_roles roles edit) first then

joined_one : (lists : List (List Edit)) (edits : List Edit) → joined (lists ++ edits ∷ []) ≡ joined lists ++ edits
joined_one [] edits = append-nil edits
joined_one (first ∷ lists) edits = grind (arith, nat_tests, joined_one lists edits, append_assoc first)

module _ (files : FileTable) (roles : RolesRead) (lists : List (List Edit)) (before after : SessionRead)
    (so_far : HasMade files roles lists before) where
  made : (edits : List Edit) → AreMade before edits after → HasMade files roles (lists ++ edits ∷ []) after
  made edits are = (let files_now : after.files ≡ files_after files (lists ++ edits ∷ []) = search
      (rules, joined_one, files_then) in
      let roles_now : after.roles ≡ roles_with roles (lists ++ edits ∷ []) =
      search (rules, joined_one, roles_then) in
      record {
        files_are = files_now;
        roles_are = roles_now;
        work = ByLast lists edits (rw
            (so_far.files_are, so_far.roles_are, files_now, roles_now) at are.work);
      })

  unmade : after ≡ before → HasMade files roles (lists ++ []) after
  unmade same = search rules

  answered : (call : Call) → IsAnswered before call after → HasMade files roles (lists ++ accepted (call ∷ [])) after
  answered (Apply edit (Ok done)) is = made (edit ∷ []) is.1
  answered (ApplyAll edits (Ok done)) is = made edits is.1
  answered c is = search (rules, unmade)

pub ends : (files : FileTable) (roles : RolesRead) (calls : List Call) (session : SessionRead)
    → History files roles calls session → HasMade files roles (accepted calls) session
ends files roles calls session (Started is) =
    record { files_are = is.files_are; roles_are = is.roles_are; work = ByStart is.work }
ends files roles calls session (Answered {calls = earlier} before call history is) =
    subst (λ lists. HasMade files roles lists session) (sym (accepted-append earlier (call ∷ [])))
    (answered files roles (accepted earlier) before session (ends files roles earlier before history) call is)

-- one more list, and its answer
pub calls-more : (lists : List (List Edit)) (answers : List (Result (Unit {0}) ListRefusal)) (edits : List Edit)
    (answer : Result (Unit {0}) ListRefusal) → length lists ≡ length answers
    → list_calls (lists ++ edits ∷ []) (answers ++ answer ∷ []) ≡ list_calls lists answers ++ ApplyAll edits answer ∷ []
calls-more [] [] edits answer same = refl
calls-more (l ∷ lists) (a ∷ answers) edits answer same = ap (λ calls. ApplyAll l a ∷ calls) (calls-more
    lists answers edits answer (omega arith))
calls-more lists answers edits answer same = absurd (omega arith)
