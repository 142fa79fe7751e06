use Rattle.std.proofs.Common.{rules}
use Rattle.std.proofs.Common.{◌<◌, length, ap, arith, sym}
use Rattle.std.proofs.lemmas.List.{length-map}
use Rattle.tangle_scan.specs.Web.{stored_piece}
use Rattle.tangle_scan.specs.declared.pieces.Piece.{Piece}
use Rattle.tangle_graph.proofs.StoredPieces.{defined_inside, is_of_node}
use Rattle.tangle_graph.proofs.pieces.node_at.Goals as goal

pub node_of_piece-requires : goal.node_of_piece-requires
node_of_piece-requires c =
    let web = c.args.web.now in
    let stored = c.pieces-pieces.result.now in
    let is = c.pieces-pieces.ensures.pieces in
    let low : c.args.i < length stored =
    omega (arith, c.requires.piece, ap length is, length-map web.pieces stored_piece) in
    defined_inside web c.args.table.now stored c.args.i c.index-pieces-i.result is low c.index-pieces-i.is
    c.requires.table c.pieces-pieces.ensures.well_formed _
    (ap (λ (q : Piece). q.occurrence) (sym c.index-pieces-i.is))

pub returns-clause-node : goal.returns-clause-node
returns-clause-node c =
    search (rules, length-map, is_of_node)
