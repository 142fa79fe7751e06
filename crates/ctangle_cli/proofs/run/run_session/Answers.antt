use Rattle.std.proofs.Common.{rules}
use Rattle.ctangle_cli.specs.Run.TangledEnds.{IsDone, IsCutAtFaults, IsUnwritten}
use Rattle.ctangle_cli.proofs.RunLemmas.{tries_from}
use Rattle.ctangle_cli.proofs.run.run_session.Goals as goal

pub returns-in-Err : goal.returns-in-Err
returns-in-Err g c = search (rules, IsCutAtFaults)

pub returns-in-Err-create_outputs : goal.returns-in-Err-create_outputs
returns-in-Err-create_outputs g c = search (rules, IsUnwritten, tries_from)

pub returns-in-Ok-create_outputs : goal.returns-in-Ok-create_outputs
returns-in-Ok-create_outputs g c = search (rules, IsDone)
