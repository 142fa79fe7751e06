use Rattle.std.proofs.Common.{rules}
use Rattle.digraph.proofs.RowLemmas.{rows_grow}
use Rattle.digraph.proofs.UserLemmas.{numbers_more}
use Rattle.tangle_graph.proofs.pieces.pieces_by_node.Goals as goal

pub loop-i-preserved : goal.loop-i-preserved
loop-i-preserved c =
    search (rules, rows_grow, numbers_more)
