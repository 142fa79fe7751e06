use Rattle.std.proofs.Common.{arith}
use Rattle.std.proofs.lemmas.Grind.{common_steps}
use Rattle.tangle_text.specs.Runs.{run_parts}
use Rattle.tangle_scan.proofs.runs.parts_of_run.Goals as goal

pub returns : goal.returns
unfolding run_parts
returns c = grind (arith, common_steps)
