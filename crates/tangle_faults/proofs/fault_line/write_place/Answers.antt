use Rattle.std.proofs.Common.{arith, ℕ, length-append}
use Rattle.tangle_faults.proofs.WriteLemmas.{writes_then}
use Rattle.tangle_faults.proofs.fault_line.write_place.Goals as goal

pub returns-clause-written : goal.returns-clause-written
returns-clause-written g c =
    let colon = writes_then _ _ _ _ _ _ _ _ c.write_after-file.ensures c.write_after-colon.ensures in
    let line = writes_then _ _ _ _ _ _ _ _ colon c.write_after-line.ensures in
    let whole = writes_then _ _ _ _ _ _ _ _ line c.write_after.ensures in
    rw (← c.file.ensures, ← c.line.ensures, ← c.format.ensures.text, ← c.as_bytes.ensures.value) whole

pub returns-clause-short : goal.returns-clause-short
returns-clause-short g c =
    let file_len = c.file.type_inv in
    let line_len = c.as_bytes.type_inv in
    rw (← c.file.ensures, ← c.line.ensures, ← c.format.ensures.text, ← c.as_bytes.ensures.value)
    (omega (arith, length-append {A = ℕ}))
