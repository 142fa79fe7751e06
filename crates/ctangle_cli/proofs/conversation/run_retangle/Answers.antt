use Rattle.ctangle_cli.proofs.HistoryLemmas.{ends_go_on}
use Rattle.ctangle_cli.proofs.conversation.run_retangle.Goals as goal

pub returns : goal.returns
returns g c =
    (_, c.run_script.ensures, λ files roles calls history. ends_go_on files roles calls history c.run_script.ensures)
