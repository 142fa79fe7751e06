use Rattle.std.proofs.Common.{rules}
use Rattle.std.proofs.Math.Nat.{mul-le-mul_right}
use Rattle.tangle_expansion.proofs.WrittenLemmas.{written-short}
use Rattle.tangle_expansion.proofs.laws.outputs_are_short.Goals as goal

pub returns : goal.returns
returns c = search (rules, written-short, mul-le-mul_right)
