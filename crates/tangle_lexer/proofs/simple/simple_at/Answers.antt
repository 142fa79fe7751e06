use Rattle.std.proofs.Common.{arith}
use Rattle.std.proofs.lemmas.Bool.Decides.{nat_tests}
use Rattle.tangle_lexer.proofs.lemmas.SimpleLemmas.{simple-is}
use Rattle.tangle_lexer.proofs.simple.simple_at.Goals as goal

pub returns-in-Some : goal.returns-in-Some
returns-in-Some c = grind (arith, nat_tests, simple-is)
