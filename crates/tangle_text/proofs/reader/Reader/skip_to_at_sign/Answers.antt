use Rattle.std.proofs.lemmas.Bool.Decides.{nat_tests}
use Rattle.std.proofs.Common.{arith}
use Rattle.tangle_text.proofs.ChunkLemmas.{in-prose, shorter-after, region_end-after}
use Rattle.tangle_text.proofs.reader.Reader.skip_to_at_sign.Goals as goal

pub returns-clause-same : goal.returns-clause-same
returns-clause-same c = grind (arith, nat_tests, region_end-after, in-prose)

pub returns-clause-shorter : goal.returns-clause-shorter
returns-clause-shorter c = grind (arith, nat_tests, shorter-after)
