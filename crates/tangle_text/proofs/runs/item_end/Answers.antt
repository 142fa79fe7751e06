use Rattle.std.proofs.lemmas.Bool.Decides.{nat_tests}
use Rattle.std.proofs.Common.{arith}
use Rattle.tangle_text.proofs.ItemLemmas.{no-quote, quote-over}
use Rattle.tangle_text.proofs.runs.item_end.Goals as goal

pub returns-then-not-is_at_quote-clause-none : goal.returns-then-not-is_at_quote-clause-none
returns-then-not-is_at_quote-clause-none c = grind (arith, nat_tests, no-quote)

pub returns-then-end-start-clause-none : goal.returns-then-end-start-clause-none
returns-then-end-start-clause-none c = grind (arith, nat_tests, quote-over)

pub returns-else-end-start-clause-some : goal.returns-else-end-start-clause-some
returns-else-end-start-clause-some c = grind (arith, nat_tests, quote-over)
