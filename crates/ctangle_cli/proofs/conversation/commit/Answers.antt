use Rattle.std.proofs.Common.{rules}
use Rattle.std.proofs.Common.{sym, refl, subst}
use Rattle.tangle_session.specs.Headline.{ApplyAll, IsAnswered}
use Rattle.ctangle_cli.specs.Conversation.{list_line}
use Rattle.ctangle_cli.specs.Conversation.IsReply.{IsCommitted, IsReported}
use Rattle.ctangle_cli.proofs.conversation.commit.Goals as goal

pub returns-in-None : goal.returns-in-None
returns-in-None g c =
    let none = c.in-None.ensures in
    (_, rw (none.after, sym none.value) (search (rules, IsReported)), c.say.ensures)

pub returns-in-Some : goal.returns-in-Some
returns-in-Some g c =
    let answer = c.apply_all-done.result in
    let made = subst (λ edits. IsAnswered c.args.session.now (ApplyAll edits answer)
    c.apply_all-done.new.self) c.deref.ensures.value c.apply_all-done.ensures in (
      list_line answer,
      rw (c.in-Some.ensures.after, sym c.in-Some.ensures.value)
          (_, IsCommitted _ answer refl refl, (_, made, refl)),
      c.write_list_answer.ensures,
    )
