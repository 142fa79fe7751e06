use Rattle.tangle_faults.proofs.fault_line.write_place_if_any.Goals as goal

pub returns-in-Some-clause-written : goal.returns-in-Some-clause-written
returns-in-Some-clause-written g c = rw c.in-Some.is c.write_place.ensures.written
