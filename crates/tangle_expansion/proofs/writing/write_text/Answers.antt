use Rattle.std.proofs.Common.{arith}
use Rattle.tangle_expansion.proofs.ShortLemmas.{light_fits}
use Rattle.tangle_faults.proofs.WriteLemmas.{written_whole}
use Rattle.tangle_expansion.proofs.writing.write_text.Goals as goal

pub returns : goal.returns
returns g c =
    written_whole _ _ _ _
    (omega (arith, light_fits c.args.numbers.now c.write_text_after.ensures.short _ c.requires.light))
    c.write_text_after.ensures.writes
