use Rattle.tangle_faults.proofs.fault_line.write_ending.Goals as goal

pub returns-in-FileName-clause-written : goal.returns-in-FileName-clause-written
returns-in-FileName-clause-written g c = rw (c.in-FileName.is, ← c.subject.ensures) c.write_after.ensures

pub returns-in-Count-clause-written : goal.returns-in-Count-clause-written
returns-in-Count-clause-written g c = rw (c.in-Count.is, ← c.count.ensures) c.write_count.ensures.written

pub returns-in-SectionName-clause-written : goal.returns-in-SectionName-clause-written
returns-in-SectionName-clause-written g c =
    rw (c.in-SectionName.is, ← c.subject-in-SectionName.ensures) c.write_bracketed.ensures

pub returns-in-None-clause-written : goal.returns-in-None-clause-written
returns-in-None-clause-written g c = rw (c.in-NameOrProgram.is, ← c.in-None.ensures) c.write_after-in-None.ensures

pub returns-in-Some-clause-written : goal.returns-in-Some-clause-written
returns-in-Some-clause-written g c =
    rw (c.in-NameOrProgram.is, ← c.in-Some.ensures, ← c.subject-in-Some.ensures) c.write_bracketed-in-Some.ensures
