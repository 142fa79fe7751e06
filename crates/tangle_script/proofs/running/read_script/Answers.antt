use Rattle.std.proofs.Common.{rules}
use Rattle.std.proofs.Common.{arith, subst}
use Rattle.std.proofs.lemmas.List.{take_at}
use Rattle.tangle_script.specs.Commands.{OnlyWaits}
use Rattle.tangle_script.proofs.RunLemmas.{ends_last, ends_more, ends_out_of_memory, ends_too_long}
use Rattle.tangle_script.proofs.RunLemmas.{ends_unread, midway_more, waits_last, waits_now}
use Rattle.tangle_script.proofs.running.read_script.Goals as goal

pub returns-in-Err : goal.returns-in-Err
returns-in-Err g c = ends_out_of_memory c.loop-count.invariant c.in-Err.ensures.err

pub returns-in-None : goal.returns-in-None
returns-in-None g c = ends_unread c.loop-count.invariant _ _ c.in-None.ensures.unread c.in-None.ensures.failed

pub answer_last-requires : goal.answer_last-requires
answer_last-requires g c = rw c.as_slice.ensures (waits_last c.loop-count.invariant _ _ _ _
    c.in_default.ensures.bytes c.in-Some.ensures.read c.if-given-eq0.true)

pub returns-then-given-eq0 : goal.returns-then-given-eq0
returns-then-given-eq0 g c =
    let so_far = c.loop-count.invariant in
    ends_last so_far _ _ _ _ c.in_default.ensures.bytes c.in-Some.ensures.read _ c.in-Some.ensures.failed
    (let none = c.if-given-eq0.true in omega (arith, so_far.counted, so_far.are_read.within)) _ g.P.Project.has_error c.if-given-eq0.true c.answer_last.result (rw c.as_slice.ensures at c.answer_last.ensures)

pub answer_chunk-requires-clause-waits : goal.answer_chunk-requires-clause-waits
answer_chunk-requires-clause-waits g c =
    let chunk = c.in-Some.ensures.read in
    subst OnlyWaits (search (rules, take_at)) (waits_now c.loop-count.invariant)

pub returns-then-count-eq-SCRIPT_LIMIT : goal.returns-then-count-eq-SCRIPT_LIMIT
returns-then-count-eq-SCRIPT_LIMIT g c =
    ends_too_long c.loop-count.invariant _ _ _ _ c.in_default.ensures.bytes c.in-Some.ensures.read
    _ c.in-Some.ensures.failed c.if-count-eq-SCRIPT_LIMIT.true
    (omega (arith, c.in-Some.ensures.within, c.if-given-eq0.false))

pub returns-in-Err-answer_chunk : goal.returns-in-Err-answer_chunk
returns-in-Err-answer_chunk g c =
    ends_more c.loop-count.invariant _ _ _ _ c.in_default.ensures.bytes c.in-Some.ensures.read
    _ c.in-Some.ensures.failed (omega (arith, c.in-Some.ensures.within)) _ g.P.Project.has_error
    c.in-Err-answer_chunk.end c.in-Err-answer_chunk.ensures.answered

pub loop-count-preserved : goal.loop-count-preserved
loop-count-preserved g c =
    search (rules, midway_more)
