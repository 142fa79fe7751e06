use Rattle.std.proofs.Common.{arith}
use Rattle.std.proofs.lemmas.Bool.Decides.{nat_tests}
use Rattle.tangle_lexer.proofs.lemmas.NameLemmas.{equals-absent}
use Rattle.tangle_lexer.proofs.lemmas.WhiteLemmas.{kind-dark}
use Rattle.tangle_lexer.proofs.names.has_no_equals.Goals as goal

pub returns-after-matches : goal.returns-after-matches
returns-after-matches c = grind (arith, nat_tests, equals-absent, kind-dark)
