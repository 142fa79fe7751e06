use Rattle.std.proofs.Common.{◌≡◌, map, take}
use Rattle.tangle_bodies.specs.NodeBodies.{body_uses}
use Rattle.tangle_bodies.specs.NodeBodies.{node_bodies}
use Rattle.tangle_graph.proofs.name_graph.have_same_uses.Given as goal

abbrev pub invariant-loop-n : goal.invariant-loop-n
invariant-loop-n l = map body_uses (node_bodies (take l.n l.before)) ≡ map body_uses (node_bodies (take l.n l.bodies))
