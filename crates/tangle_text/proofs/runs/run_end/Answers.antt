use Rattle.std.proofs.lemmas.Bool.Decides.{nat_tests}
use Rattle.std.proofs.Common.{arith}
use Rattle.tangle_text.proofs.ItemLemmas.{column-ends, column-plain, no-quote}
use Rattle.tangle_text.proofs.runs.run_end.Goals as goal

pub returns-else-is_at_quote-clause-end : goal.returns-else-is_at_quote-clause-end
returns-else-is_at_quote-clause-end c =
    let ends = c.end_of-end.ensures.end in
    grind (
      arith,
      nat_tests,
      column-plain c.args.bytes.now c.args.from c.end_of-end.result ends,
      no-quote c.args.bytes.now c.end_of-end.result c.item_start.result
          (column-ends c.args.bytes.now c.args.from c.end_of-end.result ends),
    )
