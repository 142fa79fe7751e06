use Rattle.tangle_script.proofs.FailureLemmas.{short_needs_no_memory}
use Rattle.tangle_script.proofs.running.short_commands_need_no_memory.Goals as goal

pub returns : goal.returns
returns g c = short_needs_no_memory g.P.Project.answers g.P.Project.has_error
