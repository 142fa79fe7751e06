use Rattle.std.proofs.Common.{rules}
use Rattle.tangle_expansion.proofs.numbers.Numbers.of_node.Goals as goal

pub returns-clause-numbers : goal.returns-clause-numbers
returns-clause-numbers c = search (rules, c.self.invariant.found)
