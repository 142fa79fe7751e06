use Rattle.std.proofs.Common.{rules, arith, append_assoc, length-append}
use Rattle.tangle_files.proofs.CuttingLemmas.{all_cut, text_ends}
use Rattle.tangle_files.proofs.cutting.share_lines.Goals as goal

pub loop-end-init : goal.loop-end-init
loop-end-init c = record { cut = search rules; ends = search (rules, text_ends c.bytes_of-bytes.result.now) }

pub returns : goal.returns
returns c =
    let last = (rw c.in-None.ensures.steps.0 at c.loop-end.invariant.ends) (omega (arith, c.if-start-bytes.false)) in
    let added = rw (← c.bytes_of-bytes.ensures) at c.in_ok-add_line-2.ensures in
    let all = all_cut c.bytes_of-bytes.result.now _ (search (rules, append_assoc, length-append)) in
    rw (← c.bytes_of-bytes.ensures) (record { lines = all.0; within = all.1 })
