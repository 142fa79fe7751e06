use Rattle.tangle_session.specs.Headline.{Started}
use Rattle.tangle_session.proofs.HeadlineLemmas.{ends}
use Rattle.tangle_session.proofs.histories.start_and_edit.Goals as goal

pub returns-clause-history : goal.returns-clause-history
returns-clause-history c =
    c.apply_each-answers.ensures.history c.args.files c.args.roles (Started c.in_ok-session.ensures.started)

pub returns-clause-made : goal.returns-clause-made
returns-clause-made c = ends c.args.files c.args.roles _ _ (returns-clause-history c)
