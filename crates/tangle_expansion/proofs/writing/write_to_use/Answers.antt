use Rattle.std.proofs.Common.{rules}
use Rattle.std.proofs.Common.{refl, arith}
use Rattle.tangle_expansion.proofs.CursorLemmas.{passes_symbols, passes_use, stops_at_end}
use Rattle.tangle_expansion.proofs.WriteLemmas.{wrote_more}
use Rattle.tangle_expansion.proofs.writing.write_to_use.Goals as goal

pub loop-end-init : goal.loop-end-init
loop-end-init g c =
    record {
      low = c.after_bytes-end.ensures.start;
      wrote = λ node used ours last all more.
          rw (c.after_bytes-end.ensures.text node c.args.text.now.numbers.now used) more;
    }

pub returns-in-Use : goal.returns-in-Use
returns-in-Use g c = λ node used ours.
    wrote_more _ _ _ _ _ _ _ _ _ _ (c.loop-end.invariant.wrote node used ours)
    (search (rules, passes_use))
    (rw (c.bytes_between-bytes.ensures, c.deref.ensures.value) at c.write_after-so_far.ensures)

pub loop-end-preserved : goal.loop-end-preserved
loop-end-preserved g c =
    let text = c.args.text.now in
    record {
      low = c.after_bytes-end-in-loop-end.ensures.start;
      wrote = λ node used ours last all more.
          wrote_more _ _ _ _ _ _ _ _ _ _
          (wrote_more _ _ _ _ _ _ _ _ _ _ (c.loop-end.invariant.wrote node used ours)
          (passes_symbols node text.numbers.now text.items.now c.loop-end.end c.cursor_after-next.result c.index-tag.result.now (omega arith)
          c.index-tag.ensures c.cursor_after-next.ensures c.loop-end.at.start c.loop-end.invariant.low c.in_default.not-Use used)
          (rw (c.bytes_between-bytes.ensures, c.deref.ensures.value) at c.write_after-so_far.ensures))
          refl (c.write_symbols-so_far.ensures node ours) last all
          (rw (c.after_bytes-end-in-loop-end.ensures.text node text.numbers.now used) more);
    }

pub returns : goal.returns
returns g c = λ node used ours.
    wrote_more _ _ _ _ _ _ _ _ _ _ (c.loop-end.invariant.wrote node used ours)
    (search (rules, stops_at_end))
    (rw (c.bytes_between-rest.ensures, c.deref-2.ensures.value) at c.write_after.ensures)
