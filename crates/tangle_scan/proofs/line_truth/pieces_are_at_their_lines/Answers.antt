use Rattle.tangle_scan.proofs.laws.WebLaws.{web-line-truth}
use Rattle.tangle_scan.proofs.line_truth.pieces_are_at_their_lines.Goals as goal

pub returns : goal.returns
returns c = web-line-truth
