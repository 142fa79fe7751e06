use Rattle.tangle_expansion.proofs.SameShapes.{used_expandable}
use Rattle.tangle_expansion.proofs.laws.used_names_are_expandable.Goals as goal

pub returns : goal.returns
returns c = used_expandable
