use Rattle.tangle_expansion.proofs.FilledLemmas.{body_gives}
use Rattle.tangle_expansion.proofs.laws.bodies_give_expansions.Goals as goal

pub returns : goal.returns
returns c = body_gives
