use Rattle.std.proofs.Common.{append_assoc}
use Rattle.tangle_faults.proofs.WriteLemmas.{writes_then}
use Rattle.tangle_expansion.proofs.writing.write_mark.Goals as goal

pub returns-in-Full : goal.returns-in-Full
returns-in-Full g c = λ before full bare.
    let written = writes_then _ _ _ _ _ _ _ _ c.write_number-opened.ensures c.write_after.ensures in
    rw (← c.marks.ensures, c.in-Full.is, ← c.mark_end.ensures) (simp append_assoc at (rw full at written))

pub returns-in-Bare : goal.returns-in-Bare
returns-in-Bare g c = λ before full bare.
    rw (← c.marks.ensures, c.in-Bare.is) (rw bare at c.write_after-in-Bare.ensures)
