use Rattle.std.proofs.lemmas.Bool.Decides.{nat_tests}
use Rattle.std.proofs.lemmas.Grind.{common_steps}
use Rattle.std.proofs.Common.{arith}
use Rattle.tangle_text.proofs.OrdinaryBytes.{region_end-ordinary}
use Rattle.tangle_text.proofs.reader.Reader.skip_inside.Goals as goal

pub returns-then-skips_ordinary : goal.returns-then-skips_ordinary
returns-then-skips_ordinary c =
    record { same = grind (arith, nat_tests, region_end-ordinary); shorter = grind (arith, common_steps) }
