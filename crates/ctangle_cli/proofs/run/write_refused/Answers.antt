use Rattle.std.proofs.Common.{rules}
use Rattle.ctangle_cli.specs.Run.EndsUnstarted.{IsMisused, IsCutAtUsage, IsUnnamed}
use Rattle.ctangle_cli.proofs.RunLemmas.{tries_from}
use Rattle.ctangle_cli.proofs.run.write_refused.Goals as goal

pub returns-in_default : goal.returns-in_default
returns-in_default g c = search (rules, IsUnnamed, tries_from)

pub returns-in-Ok-say : goal.returns-in-Ok-say
returns-in-Ok-say g c = search (rules, IsMisused)

pub returns : goal.returns
returns g c = search (rules, IsCutAtUsage)
