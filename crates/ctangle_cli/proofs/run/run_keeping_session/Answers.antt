use Rattle.std.proofs.Common.{rules}
use Rattle.std.proofs.Common.{refl}
use Rattle.ctangle_cli.specs.Run.EndsUnstarted.{IsMisused, IsCutAtUsage, IsUnnamed}
use Rattle.ctangle_cli.specs.Run.RunEnds.{IsUnstarted}
use Rattle.ctangle_cli.proofs.RunLemmas.{tries_from}
use Rattle.ctangle_cli.proofs.run.run_keeping_session.Goals as goal

pub returns-in-Ok-say : goal.returns-in-Ok-say
returns-in-Ok-say g c =
    IsUnstarted (IsMisused (c.in-Err-Usage.ensures.usage (λ e. cc)) c.in-Ok-say.ensures
    (refl, (refl, refl), refl) refl)

pub returns-in-Err : goal.returns-in-Err
returns-in-Err g c = search (rules, IsUnstarted, IsCutAtUsage)

pub returns-in-Err-NoMemory : goal.returns-in-Err-NoMemory
returns-in-Err-NoMemory g c = search (rules, IsUnstarted, IsUnnamed, tries_from)

pub returns-in-Ok : goal.returns-in-Ok
returns-in-Ok g c = c.run_named.ensures _ c.in-Ok.ensures.ok
