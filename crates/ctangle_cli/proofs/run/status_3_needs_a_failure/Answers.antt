use Rattle.ctangle_cli.proofs.NothingDone.{run_not_3}
use Rattle.ctangle_cli.proofs.run.status_3_needs_a_failure.Goals as goal

pub returns : goal.returns
returns c = λ arguments same known few. run_not_3 same known few arguments
