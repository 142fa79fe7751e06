use Rattle.tangle_graph.proofs.AffectedLemmas.{no_element}
use Rattle.tangle_graph.proofs.laws.alike_shapes_affect_nothing.Goals as goal

pub returns : goal.returns
returns c = λ old new store nodes alike lists.
    no_element nodes (λ a here. (let is = ((lists.just a).0 here).1 in is.changed (alike is.cause)))
