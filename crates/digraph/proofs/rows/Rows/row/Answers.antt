use Rattle.std.proofs.Common.{rules}
use Rattle.std.proofs.lemmas.List.{get_or_past}
use Rattle.digraph.proofs.RowLemmas.{row_within, row_between, length-rows_between}
use Rattle.digraph.proofs.rows.Rows.row.Goals as goal

pub part-requires : goal.part-requires
part-requires g c = search (rules, row_within)

pub returns-in-Some : goal.returns-in-Some
returns-in-Some g c = search (rules, row_between)

pub returns-in-None : goal.returns-in-None
returns-in-None g c = search (rules, length-rows_between, get_or_past)
