use Rattle.std.proofs.Common.{arith}
use Rattle.std.proofs.lemmas.Bool.Decides.{nat_tests}
use Rattle.tangle_text.proofs.RegionLemmas.{region_end-is}
use Rattle.tangle_lexer.proofs.steps.prose.Goals as goal

pub returns : goal.returns
returns c = grind (arith, nat_tests, region_end-is)
