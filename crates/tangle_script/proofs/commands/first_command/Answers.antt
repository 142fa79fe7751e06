use Rattle.tangle_script.proofs.CommandLemmas.{end_trans}
use Rattle.tangle_script.proofs.commands.first_command.Goals as goal

pub returns-clause-rest : goal.returns-clause-rest
returns-clause-rest c = end_trans _ _ _ c.in_ok-line.ensures.some.3 c.in_ok-text.ensures.some.3
