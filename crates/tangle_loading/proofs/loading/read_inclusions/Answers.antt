use Rattle.std.proofs.Common.{◌∙◌, sym}
use Rattle.std.proofs.lemmas.Result.{err_from_is_err_and}
use Rattle.tangle_loading.proofs.AskLemmas.{missed_next}
use Rattle.tangle_loading.proofs.StepLemmas.{step_next}
use Rattle.tangle_loading.proofs.loading.read_inclusions.Goals as goal

pub returns-in_err-read_once : goal.returns-in_err-read_once
returns-in_err-read_once g c =
    let next = missed_next c.args.faults.now c.loop-fault.fault-index c.fault-item.result c.loop-fault-test.true
    c.fault-item.is (sym c.is_missed.ensures ∙ c.if-not-is_missed.false) in
    let left = err_from_is_err_and c.from_residual.result c.from_residual.ensures.1 in
    let step = step_next (rw next at c.loop-fault.invariant) (rw c.subject.ensures at c.in_err-read_once.ensures) in
    rw (left.1, left.2) (record { to = step.to })
