use Rattle.std.proofs.Common.{[], arith, refl}
use Rattle.tangle_streams.proofs.StreamLemmas.{IsWritten-none}
use Rattle.ctangle_cli.proofs.RunLemmas.{parts_cut, parts_more}
use Rattle.ctangle_cli.proofs.messages.say.Goals as goal

pub returns-in-Err : goal.returns-in-Err
returns-in-Err g c =
    parts_cut (λ part. part.now) _ _ _ c.args.parts.now c.loop-part.part-index c.loop-part-test.true _ _ refl
    c.in-Err.field-0 c.loop-part.invariant (c.in-Err.ensures _ [] (IsWritten-none _) (omega arith))

pub loop-part-preserved : goal.loop-part-preserved
loop-part-preserved g c =
    parts_more (λ part. part.now) _ _ _ c.args.parts.now c.loop-part.part-index c.loop-part-test.true _ _ refl
    c.in-Ok.field-0 c.loop-part.invariant (c.in-Ok.ensures _ [] (IsWritten-none _) (omega arith))
