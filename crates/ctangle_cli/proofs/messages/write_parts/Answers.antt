use Rattle.tangle_streams.proofs.StreamLemmas.{IsWritten-none}
use Rattle.ctangle_cli.proofs.RunLemmas.{parts_written}
use Rattle.ctangle_cli.proofs.messages.write_parts.Goals as goal

pub loop-part-init : goal.loop-part-init
loop-part-init g c = IsWritten-none _

pub loop-part-preserved : goal.loop-part-preserved
loop-part-preserved g c =
    parts_written (λ part. part.now) _ _ _ c.args.parts.now c.loop-part.part-index _ _ _ c.loop-part-test.true
    c.requires c.loop-part.invariant c.write_after-written.ensures
