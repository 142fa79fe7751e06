use Rattle.std.proofs.Common.{rules}
use Rattle.tangle_names.proofs.KeyLemmas.{number_after}
use Rattle.tangle_names.proofs.numbers.resolve_meaning.Goals as goal

pub returns-clause-number : goal.returns-clause-number
returns-clause-number c = search (rules, number_after)
