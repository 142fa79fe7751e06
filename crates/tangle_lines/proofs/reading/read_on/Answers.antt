use Rattle.std.proofs.Common.{arith, ◌+◌, ◌≤◌, ◌<◌, ap, ◌∙◌}
use Rattle.tangle_lines.specs.Reading.{WaitingLine, source_line_limit}
use Rattle.tangle_lines.proofs.ReadingLemmas.{so_far-end, so_far-stop, so_far-plain, so_far-used}
use Rattle.tangle_lines.proofs.reading.read_on.Goals as goal

pub returns-then-taken-ge-SOURCE_LINE_LIMIT-clause-read : goal.returns-then-taken-ge-SOURCE_LINE_LIMIT-clause-read
returns-then-taken-ge-SOURCE_LINE_LIMIT-clause-read c =
    let origin = ap (λ (r : WaitingLine). r.origin) c.line.view_is in
    rw (c.in_ok-add_fault.ensures, c.name_at-file.ensures, origin)
    (so_far-stop _ _ _ _ _ _ _ _ c.loop-line.invariant.read _ _ c.in-Some.ensures.front
    c.if-taken-ge-SOURCE_LINE_LIMIT.true)

pub loop-line-preserved-in-Some-change_at : goal.loop-line-preserved-in-Some-change_at
loop-line-preserved-in-Some-change_at c =
    let used = c.in_ok-matched-in-Some-change_at.ensures in
    record {
      read =
          rw c.after_first-changes.ensures
          (so_far-used _ _ _ _ _ _ _ _ c.loop-line.invariant.read _ _ c.in-Some.ensures.front _ _ _ _
          (omega (arith, c.if-taken-ge-SOURCE_LINE_LIMIT.false)) c.in-Some-change_at.ensures used.lines used.rest
          (rw (c.name_at-file-in-Some-change_at.ensures, c.at.ensures, used.unequal)
          at c.in_ok-add_mismatch_fault-in-Some-change_at.ensures));
      few = omega (arith, c.loop-line.invariant.few);
      limit = c.loop-line.invariant.limit;
      short = c.loop-line.invariant.short;
    }

pub loop-line-preserved : goal.loop-line-preserved
loop-line-preserved c =
    let t = c.loop-line.taken in
    let below : t < source_line_limit = omega (arith, c.if-taken-ge-SOURCE_LINE_LIMIT.false) in
    let plain = c.in_ok-read_plain-in-None.ensures in
    let passed = c.in_ok-taken-in-None.ensures in
    let more : t + 1 + c.in_ok-taken-in-None.field-0 ≤ source_line_limit = omega (arith, below, passed.limit) in
    record {
      read = passed.passed _ _ _ (t + 1) more
          ∙ so_far-plain _ _ _ _ _ _ _ _ c.loop-line.invariant.read _ _ c.in-Some.ensures.front
          _ _ _ below c.in-None.ensures plain.read;
      few = omega (arith, c.loop-line.invariant.few, plain.one, passed.count);
      limit = omega (arith, c.loop-line.invariant.few, plain.one, passed.count, more);
      short = passed.short (plain.short c.loop-line.invariant.short);
    }

pub returns-clause-read : goal.returns-clause-read
returns-clause-read c =
    rw c.in_ok-add_unused_fault.ensures
    (so_far-end _ _ _ _ _ _ _ _ c.loop-line.invariant.read c.in_default.ensures.none.0)
