use Rattle.std.proofs.Common.{[], refl}
use Rattle.ctangle_cli.specs.Run.EndsUnstarted.{IsUnnamed}
use Rattle.ctangle_cli.specs.Run.RetangleEnds.{IsConversation, IsUnanswered}
use Rattle.ctangle_cli.proofs.HistoryLemmas.{from_start}
use Rattle.ctangle_cli.proofs.ReadLemmas.{started-sound, stay-read}
use Rattle.ctangle_cli.proofs.RunLemmas.{tries_from}
use Rattle.ctangle_cli.proofs.run.run_retangle_before_exit.Goals as goal

pub returns-in-Err-Parse : goal.returns-in-Err-Parse
returns-in-Err-Parse g c =
    IsUnanswered _ (c.write_refused.ensures _ _ (c.in-Err-Parse.ensures.usage (λ e. cc))).1 refl

pub returns-in-Err-NoMemory : goal.returns-in-Err-NoMemory
returns-in-Err-NoMemory g c = IsUnanswered []
    (IsUnnamed (tries_from _ _ c.write_load.result _ c.write_load.ensures) (refl, (refl, refl), refl) refl) refl

pub returns-in-None : goal.returns-in-None
returns-in-None g c = IsUnanswered [] (rw c.in-Ok.ensures.ok (c.in-None.ensures.unstarted [])) refl

pub returns : goal.returns
returns g c =
    let starts = c.in-Some.ensures.started in
    let goes = c.run_retangle-status.ensures in
    IsConversation _ _ _ c.in-Ok.ensures.ok starts goes.1 (goes.2 _ _ [] (from_start _ _ _ starts.started))
    (stay-read _ _ (started-sound _ _ _ _ starts))
