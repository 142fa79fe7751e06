use Rattle.tangle_faults.proofs.WriteLemmas.{writes_then}
use Rattle.tangle_faults.proofs.fault_line.write_bracketed.Goals as goal

pub returns : goal.returns
returns g c =
    let named = writes_then _ _ _ _ _ _ _ _ c.write_after-opened.ensures c.write_after-named.ensures in
    writes_then _ _ _ _ _ _ _ _ named c.write_after.ensures
