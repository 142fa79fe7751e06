use Rattle.std.proofs.Common.{rules}
use Rattle.std.proofs.lemmas.Bool.Decides.{nat_tests}
use Rattle.std.proofs.Common.{arith}
use Rattle.tangle_text.proofs.ItemLemmas.{column-ends, column-plain}
use Rattle.tangle_text.proofs.runs.past_items.Goals as goal

pub item_end-requires-clause-other : goal.item_end-requires-clause-other
item_end-requires-clause-other c = search (rules, column-ends)

pub loop-start-preserved : goal.loop-start-preserved
loop-start-preserved c =
    grind (arith, nat_tests, column-plain c.args.bytes.now c.loop-start.start c.loop-start.end, c.in-Some.ensures.some)

pub returns-in-None-clause-end : goal.returns-in-None-clause-end
returns-in-None-clause-end c =
    grind (arith, nat_tests, column-plain c.args.bytes.now c.loop-start.start c.loop-start.end, c.in-None.ensures.none)
