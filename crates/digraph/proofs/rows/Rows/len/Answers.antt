use Rattle.std.proofs.Common.{rules}
use Rattle.digraph.proofs.RowLemmas.{length-rows_between}
use Rattle.digraph.proofs.rows.Rows.len.Goals as goal

pub returns : goal.returns
returns g c = search (rules, length-rows_between)
