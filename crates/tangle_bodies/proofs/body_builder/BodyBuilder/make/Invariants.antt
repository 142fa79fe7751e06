use Rattle.std.proofs.Common.{take}
use Rattle.tangle_bodies.specs.Nodes.{pieces_at}
use Rattle.tangle_bodies.proofs.AddingPieces.{AreMade}
use Rattle.tangle_bodies.proofs.body_builder.BodyBuilder.make.Given as goal

abbrev pub invariant-loop-number : goal.invariant-loop-number
invariant-loop-number l = AreMade l.web.texts l.table (pieces_at l.web.pieces (take l.number-index l.numbers)) l.self
