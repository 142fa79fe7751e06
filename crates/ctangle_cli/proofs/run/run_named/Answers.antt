use Rattle.ctangle_cli.specs.Messages.{usage_line}
use Rattle.ctangle_cli.specs.Run.RunEnds.{IsTangled, IsUnstarted}
use Rattle.ctangle_cli.proofs.ReadLemmas.{read-as-written, started-sound}
use Rattle.ctangle_cli.proofs.run.run_named.Goals as goal

pub returns-in-None : goal.returns-in-None
returns-in-None g c = λ arguments is.
    IsUnstarted (rw is (c.in-None.ensures.unstarted usage_line))

pub returns-in-Some : goal.returns-in-Some
returns-in-Some g c = λ arguments is.
    let starts = c.in-Some.ensures.started in
    IsTangled _ _ _ is starts c.run_session-status.ensures (read-as-written _ _ (started-sound _ _ _ _ starts))
