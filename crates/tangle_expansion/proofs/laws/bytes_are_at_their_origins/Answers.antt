use Rattle.tangle_expansion.proofs.LineTruth.{node_is_located}
use Rattle.tangle_expansion.proofs.laws.bytes_are_at_their_origins.Goals as goal

pub returns : goal.returns
returns c = node_is_located
