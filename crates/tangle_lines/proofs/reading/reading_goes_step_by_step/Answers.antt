use Rattle.tangle_lines.proofs.ReadingLemmas.{reads_from-step}
use Rattle.tangle_lines.proofs.reading.reading_goes_step_by_step.Goals as goal

pub returns : goal.returns
returns c = reads_from-step
