use Rattle.std.proofs.Common.{◌∙◌}
use Rattle.tangle_bodies.specs.Nodes.{title_at}
use Rattle.tangle_bodies.specs.WebShapes.{shapes}
use Rattle.tangle_graph.proofs.NodeMeasureLemmas.{piece_by_measure}
use Rattle.tangle_graph.proofs.faults.FaultSearch.has_piece.Goals as goal

pub returns : goal.returns
returns c =
    let table = c.args.self.now.table.now in
    c.has_piece.ensures ∙ piece_by_measure (shapes c.args.self.now.web.now table) (title_at table.names c.args.node) _
    (c.requires.search.measured c.args.node c.requires.node)
