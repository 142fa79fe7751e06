use Rattle.std.proofs.Common.{◌++◌, [], append_assoc, append-nil, inl, inr, refl}
use Rattle.std.specs.Prelude.{codes, decimal}
use Rattle.tangle_faults.proofs.WriteLemmas.{writes_then}
use Rattle.tangle_expansion.proofs.writing.write_symbols.Goals as goal

pub returns-in-PieceStart : goal.returns-in-PieceStart
returns-in-PieceStart g c = λ node ours.
    let section = c.section in
    rw (c.in-PieceStart.is, append-nil, ← ours, ← section.ensures, ← c.mark_origin-first.ensures)
    (rw (append_assoc (decimal section.result) (codes ":*/"))
    (writes_then _ _ _ _ _ _ _ _ c.write_number-opened.ensures (c.write_mark.ensures (codes ":*/") refl refl)))

pub returns-in-Mark : goal.returns-in-Mark
returns-in-Mark g c = λ node ours.
    rw (c.in-Mark.is, append-nil, ← ours, ← c.mark_origin-origin.ensures)
    (c.write_mark-in-Mark.ensures [] refl refl)

pub returns-in-AllMacros : goal.returns-in-AllMacros
returns-in-AllMacros g c = λ node ours.
    rw (c.in-AllMacros.is, append-nil c.args.text.now.numbers.now.macros, ← c.macros.ensures.macros)
    (writes_then _ _ _ _ _ _ _ _ c.write_after-opened.ensures c.write_after.ensures)

pub returns-in-PieceEnd : goal.returns-in-PieceEnd
returns-in-PieceEnd g c = λ node ours.
    let section = c.section-in-PieceEnd in
    rw (c.in-PieceEnd.is, ← ours, ← section.ensures, append-nil (decimal section.result ++ codes "*/"))
    (writes_then _ _ _ _ _ _ _ _ c.write_number-closed.ensures c.write_after-in-PieceEnd.ensures)

pub returns-in-Use : goal.returns-in-Use
returns-in-Use g c = λ node ours.
    elim c.in-Use.is [ inl e ↦ rw e c.write_after-in-Use.ensures | inr e ↦ rw e c.write_after-in-Use.ensures ]
