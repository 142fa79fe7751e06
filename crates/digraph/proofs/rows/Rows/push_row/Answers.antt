use Rattle.std.proofs.Common.{rules}
use Rattle.digraph.proofs.RowLemmas.{ends_push, rows_push}
use Rattle.digraph.proofs.rows.Rows.push_row.Goals as goal

pub invariant_of-self-2 : goal.invariant_of-self-2
invariant_of-self-2 g c = search (rules, ends_push)

pub returns-clause-ok : goal.returns-clause-ok
returns-clause-ok g c = search (rules, rows_push)
