use Rattle.std.proofs.Common.{ap}
use Rattle.tangle_faults.specs.FaultLine.{fault_line}
use Rattle.ctangle_cli.proofs.RunLemmas.{parts_cut, parts_more}
use Rattle.ctangle_cli.proofs.messages.write_faults.Goals as goal

pub returns-in-Err : goal.returns-in-Err
returns-in-Err g c =
    parts_cut fault_line _ _ _ c.args.faults.now c.loop-fault.fault-index c.loop-fault-test.true
    c.fault-item.result _ (ap fault_line c.fault-item.is) c.in-Err.field-0 c.loop-fault.invariant c.in-Err.ensures

pub loop-fault-preserved : goal.loop-fault-preserved
loop-fault-preserved g c =
    parts_more fault_line _ _ _ c.args.faults.now c.loop-fault.fault-index c.loop-fault-test.true
    c.fault-item.result _ (ap fault_line c.fault-item.is) c.in-Ok.field-0 c.loop-fault.invariant c.in-Ok.ensures
