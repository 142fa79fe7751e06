use Rattle.std.proofs.Common.{map, take}
use Rattle.tangle_bodies.specs.NodeBodies.{body_uses}
use Rattle.tangle_graph.specs.NameGraphs.{AreUsesOf}
use Rattle.tangle_bodies.specs.NodeBodies.{node_bodies}
use Rattle.tangle_graph.proofs.name_graph.uses_of_bodies.Given as goal

abbrev pub invariant-loop-body : goal.invariant-loop-body
invariant-loop-body l = AreUsesOf (map body_uses (node_bodies (take l.body-index l.bodies))) l.rows
