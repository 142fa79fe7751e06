use Rattle.std.proofs.lemmas.Bool.Decides.{nat_tests}
use Rattle.std.proofs.Common.{arith, refl}
use Rattle.std.proofs.lemmas.Result.{err_from_is_err_and}
use Rattle.tangle_loading.proofs.LoadLemmas.{first_stands, rounds_begin, rounds_done, rounds_next}
use Rattle.tangle_loading.proofs.LoadLemmas.{step_grows, step_stops}
use Rattle.tangle_loading.proofs.StepLemmas.{step_short}
use Rattle.tangle_loading.proofs.TableLemmas.{longer}
use Rattle.tangle_loading.proofs.loading.load_files.Goals as goal

pub returns-in_err-read_needed-clause-gives : goal.returns-in_err-read_needed-clause-gives
returns-in_err-read_needed-clause-gives g c =
    let left = err_from_is_err_and c.from_residual.result c.from_residual.ensures.1 in
    rw (left.1, left.2) (step_stops _ _ (first_stands _ _ c.requires)
    (rw (c.new-files.ensures, c.new-asked.ensures) at c.in_err-read_needed.ensures))

pub loop-asked-init : goal.loop-asked-init
loop-asked-init g c =
    rounds_begin _ _ c.requires (rw (c.new-files.ensures, c.new-asked.ensures) at c.in_ok-read_needed.ensures)

pub returns-in_err-faults-clause-gives : goal.returns-in_err-faults-clause-gives
returns-in_err-faults-clause-gives g c =
    let left = err_from_is_err_and c.from_residual-in_err-faults.result c.from_residual-in_err-faults.ensures.1 in
    rw (left.1, left.2) (step_stops _ _ c.loop-asked.invariant.at (step_short _ _ _ _ _ c.loop-asked.asked refl))

pub returns-in_err-read_inclusions-clause-gives : goal.returns-in_err-read_inclusions-clause-gives
returns-in_err-read_inclusions-clause-gives g c =
    let left = err_from_is_err_and c.from_residual-in_err-read_inclusions.result
    c.from_residual-in_err-read_inclusions.ensures.1 in
    rw (left.1, left.2) (step_stops _ _ c.loop-asked.invariant.at
    (rw (c.as_slice.ensures.value, c.in_ok-faults.ensures) at c.in_err-read_inclusions.ensures))

pub returns-then-count-clause-gives : goal.returns-then-count-clause-gives
returns-then-count-clause-gives g c =
    rounds_done _ _ c.loop-asked.invariant
    (rw (c.as_slice.ensures.value, c.in_ok-faults.ensures) at c.in_ok-read_inclusions.ensures) (grind (arith, nat_tests))

pub returns-then-count-clause-fits : goal.returns-then-count-clause-fits
returns-then-count-clause-fits g c =
    (rounds_next _ _ c.loop-asked.invariant
    (rw (c.as_slice.ensures.value, c.in_ok-faults.ensures) at c.in_ok-read_inclusions.ensures)).has_roles

pub loop-asked-smaller : goal.loop-asked-smaller
loop-asked-smaller g c =
    let grows = step_grows _ _ c.loop-asked.invariant
    (rw (c.as_slice.ensures.value, c.in_ok-faults.ensures) at c.in_ok-read_inclusions.ensures) in
    grind (arith, nat_tests, longer c.loop-asked.files c.read_inclusions.new.files grows)

pub loop-asked-preserved : goal.loop-asked-preserved
loop-asked-preserved g c =
    rounds_next _ _ c.loop-asked.invariant
    (rw (c.as_slice.ensures.value, c.in_ok-faults.ensures) at c.in_ok-read_inclusions.ensures)
