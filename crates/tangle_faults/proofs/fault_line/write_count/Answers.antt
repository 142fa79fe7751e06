use Rattle.tangle_faults.proofs.fault_line.write_count.Goals as goal

pub returns-clause-written : goal.returns-clause-written
returns-clause-written g c = rw (← c.format.ensures.text, ← c.as_bytes.ensures.value) c.write_after.ensures
