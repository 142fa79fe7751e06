use Rattle.std.proofs.Common.{◌≡◌, ◌+◌, ◌∷◌, length, drop, ap, sym, add-one, refl}
use Rattle.std.proofs.lemmas.List.{drop-map, drop_min}
use Rattle.tangle_lines.specs.Reading.{WaitingLine}
use Rattle.tangle_lines.proofs.reading.use_change.Goals as goal

pub returns-clause-unequal : goal.returns-clause-unequal
returns-clause-unequal c =
    rw (← c.old_lines.ensures, drop-map (λ l. l.now) 1 c.old_lines.result.now, ← c.after_first.ensures)
    c.take_old-further.ensures.unequal

pub returns-clause-rest : goal.returns-clause-rest
returns-clause-rest c =
    let waiting = c.args.waiting.now in
    let depth = ap (λ (r : WaitingLine). r.depth) c.line.view_is in
    let left : drop (length c.after_first.result.now) waiting
    ≡ drop (c.take_old-further.result.lines + 1) (c.args.line.now ∷ waiting) =
    rw (add-one, c.take_old-further.ensures.lines) (sym (drop_min _ waiting)) in
    rw (c.in_ok-open.ensures, c.of_change.ensures, c.new_lines.ensures, depth, c.take_old-further.ensures.rest, left)
    refl
