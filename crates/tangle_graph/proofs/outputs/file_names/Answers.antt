use Rattle.std.proofs.Common.{rules}
use Rattle.std.proofs.Common.{◌≡◌, ap, arith, length}
use Rattle.tangle_graph.proofs.ListLemmas.{range_more}
use Rattle.tangle_graph.proofs.OutputLemmas.{names_below}
use Rattle.tangle_graph.proofs.outputs.file_names.Goals as goal

pub loop-occurrence-preserved : goal.loop-occurrence-preserved
loop-occurrence-preserved c =
    search (rules, range_more)

pub returns : goal.returns
returns c =
    let end : c.loop-occurrence.occurrence ≡ length c.args.web.now.occurrences =
    omega (arith, ap length c.occurrences-occurrence-end.ensures.occurrences) in
    search (rules, names_below)
