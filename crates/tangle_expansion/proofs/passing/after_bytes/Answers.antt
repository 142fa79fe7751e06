use Rattle.std.proofs.Common.{◌≡◌, ◌∙◌, arith, length}
use Rattle.tangle_bodies.specs.Flat.{own_symbols}
use Rattle.tangle_bodies.specs.Shapes.{Program}
use Rattle.tangle_expansion.proofs.CursorLemmas.{passes_bytes}
use Rattle.tangle_expansion.proofs.passing.after_bytes.Goals as goal

pub loop-at-preserved : goal.loop-at-preserved
loop-at-preserved c =
    let items = c.args.items.now in
    let at = c.loop-at.at in
    let next = c.cursor_after-at in
    let inv = c.loop-at.invariant in
    let none : length (own_symbols Program 0 0 c.index-tag.result.now.kind) ≡ 0 = omega arith in
    record {
      tag = omega (arith, inv.tag, next.ensures.tag);
      start = omega (arith, inv.start, next.ensures.start);
      text = λ node numbers used.
          inv.text node numbers used
          ∙ passes_bytes node numbers items at next.result c.index-tag.result.now (omega arith) c.index-tag.ensures next.ensures
          c.args.from.start inv.start none used;
    }
