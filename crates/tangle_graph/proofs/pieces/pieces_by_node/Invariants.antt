use Rattle.std.proofs.Common.{◌+◌, length}
use Rattle.digraph.specs.Rows.{IsRowsOf}
use Rattle.tangle_graph.specs.Grouping.{positions_of}
use Rattle.tangle_graph.proofs.pieces.pieces_by_node.Given as goal

abbrev pub invariant-loop-i : goal.invariant-loop-i
invariant-loop-i l = IsRowsOf (length l.table.names + 1) (positions_of l.table l.web.pieces l.i) l.rows
