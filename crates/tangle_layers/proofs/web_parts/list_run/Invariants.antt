use Rattle.std.proofs.Common.{length}
use Rattle.tangle_layers.proofs.web_parts.list_run.Given as goal

abbrev pub decreases-loop-part : goal.decreases-loop-part
decreases-loop-part g l = length l.parts
