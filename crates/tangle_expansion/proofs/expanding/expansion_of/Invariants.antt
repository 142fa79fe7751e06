use Rattle.std.proofs.Common.{◌≡◌, take}
use Rattle.tangle_expansion.specs.Kept.{kept_for}
use Rattle.tangle_bodies.specs.NodeBodies.{body_uses}
use Rattle.tangle_expansion.proofs.expanding.expansion_of.Given as goal

abbrev pub invariant-loop-node : goal.invariant-loop-node
invariant-loop-node l = l.used.items ≡ kept_for l.kept (take l.node-index (body_uses l.body))
