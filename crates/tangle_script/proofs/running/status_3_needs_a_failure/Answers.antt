use Rattle.tangle_script.proofs.FailureLemmas.{is_not_status_3}
use Rattle.tangle_script.proofs.running.status_3_needs_a_failure.Goals as goal

pub returns : goal.returns
returns g c = is_not_status_3 g.P.Project.answers g.P.Project.has_error
