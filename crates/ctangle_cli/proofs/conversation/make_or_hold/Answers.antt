use Rattle.std.proofs.Common.{rules}
use Rattle.std.proofs.Common.{Err, Ok, inl, refl}
use Rattle.std.proofs.lemmas.Result.{err_from_is_err_and}
use Rattle.ctangle_cli.specs.Conversation.IsReply.{IsEdit, IsHeld}
use Rattle.ctangle_cli.proofs.conversation.make_or_hold.Goals as goal

pub returns-in_err-apply-in-None : goal.returns-in_err-apply-in-None
returns-in_err-apply-in-None c = λ request is edit.
    let left = err_from_is_err_and c.from_residual-in_err-apply-in-None.result
    c.from_residual-in_err-apply-in-None.ensures.1 in
    rw (left.1, left.2, c.in-None.is) (inl (
      _,
      IsEdit _ (Err c.in_err-apply-in-None.field-0.0)
          (rw c.in_ok-edit.was at is) refl,
      (_, c.in_err-apply-in-None.ensures, refl),
    ))

pub returns-in_ok-apply-in-None : goal.returns-in_ok-apply-in-None
returns-in_ok-apply-in-None c = λ request is edit. rw c.in-None.is (inl (
  _,
  IsEdit _ (Ok c.in_ok-apply-in-None.field-0)
      (rw c.in_ok-edit.was at is) refl,
  (_, c.in_ok-apply-in-None.ensures, refl),
))

pub returns-in_ok-push-in-Some : goal.returns-in_ok-push-in-Some
returns-in_ok-push-in-Some c = search (rules, IsHeld)
