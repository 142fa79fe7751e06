use Rattle.std.proofs.Common.{rules}
use Rattle.digraph.proofs.RowLemmas.{rows_grow}
use Rattle.digraph.proofs.UserLemmas.{is_reversed, numbers_more}
use Rattle.digraph.proofs.reversing.users.Goals as goal

pub loop-n-preserved : goal.loop-n-preserved
loop-n-preserved c = search (rules, rows_grow, numbers_more)

pub returns : goal.returns
returns c = search (rules, is_reversed)
