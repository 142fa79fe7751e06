use Rattle.tangle_faults.proofs.WriteLemmas.{writes_then}
use Rattle.tangle_expansion.proofs.writing.write_number.Goals as goal

pub returns : goal.returns
returns g c =
    rw (← c.format.ensures.text, ← c.as_bytes.ensures.value)
    (writes_then _ _ _ _ _ _ _ _ c.write_after-opened.ensures c.write_after.ensures)
