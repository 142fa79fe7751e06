use Rattle.std.proofs.Common.{arith, ◌≡◌, ◌<◌, ◌+◌, length, sym}
use Rattle.std.proofs.lemmas.Bool.{eqb-true, eqb-false}
use Rattle.std.proofs.lemmas.List.{take_rest, nil_from_length}
use Rattle.tangle_streams.proofs.StreamLemmas.{halfway_at_first, halfway_more, halfway_at_end, halfway_fault}
use Rattle.tangle_streams.proofs.StreamLemmas.{Keeps-none, failed_at_none, count_and_rest}
use Rattle.tangle_streams.proofs.writing.write_after.Goals as goal

pub loop-rest-init : goal.loop-rest-init
loop-rest-init g c = λ old output h fits. halfway_at_first _ _ _ _ _ (rw c.in_ok-count.was at h)

pub loop-rest-preserved : goal.loop-rest-preserved
loop-rest-preserved g c = λ old output h fits.
    let some : 0 < c.in-Some.n = omega (arith, c.if-n-eq0.false) in
    let half = c.loop-rest.invariant old output h fits in
    let within = c.in-Some.ensures.within in
    let sum : c.saturating_add-count.result ≡ c.loop-rest.count + c.in-Some.n =
    omega (arith, c.saturating_add-count.ensures, within, count_and_rest _ _ _ _ _ _ half, fits) in
    rw (sum, take_rest)
    (halfway_more _ _ _ _ c.in-Some.n _ _ _ half some within c.in-Some.ensures.reported c.in-Some.ensures.failed)

pub returns-in-None : goal.returns-in-None
returns-in-None g c = λ old output h fits.
    let some : 0 < length c.loop-rest.rest.now = omega (arith, eqb-false _ 0 (sym c.loop-rest-test.ensures)) in
    halfway_fault _ _ _ _ _ _ _ (c.loop-rest.invariant old output h fits)
    some c.in-None.ensures.reported c.in-None.ensures.failed

pub returns-then-n-eq0 : goal.returns-then-n-eq0
returns-then-n-eq0 g c = λ old output h fits.
    let some : 0 < length c.loop-rest.rest.now = omega (arith, eqb-false _ 0 (sym c.loop-rest-test.ensures)) in
    let reported = rw c.if-n-eq0.true at c.in-Some.ensures.reported in
    halfway_fault _ _ _ _ _ _ _ (c.loop-rest.invariant old output h fits) some (Keeps-none _ _ reported)
    (failed_at_none _ _ c.in-Some.n c.loop-rest.rest.now c.if-n-eq0.true some c.in-Some.ensures.failed)

pub returns : goal.returns
returns g c = λ old output h fits.
    halfway_at_end _ _ _ _ _ _ (c.loop-rest.invariant old output h fits)
    (nil_from_length c.loop-rest.rest.now (eqb-true _ 0 (sym c.loop-rest-test.ensures)))
