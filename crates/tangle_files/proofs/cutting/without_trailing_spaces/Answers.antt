use Rattle.std.proofs.Common.{◌-◌, arith}
use Rattle.std.proofs.lemmas.Bool.Decides.{nat_tests}
use Rattle.std.proofs.lemmas.List.{take_more}
use Rattle.tangle_files.proofs.CuttingLemmas.{trimmed-push}
use Rattle.tangle_files.proofs.cutting.without_trailing_spaces.Goals as goal

pub returns-then-line-end-ne32 : goal.returns-then-line-end-ne32
returns-then-line-end-ne32 c =
    grind (arith, nat_tests, take_more c.args.line.now (c.loop-end.end - 1) 0, trimmed-push)

pub loop-end-preserved : goal.loop-end-preserved
loop-end-preserved c = grind (arith, nat_tests, take_more c.args.line.now (c.loop-end.end - 1) 0, trimmed-push)
