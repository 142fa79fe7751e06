use Rattle.std.proofs.Common.{arith}
use Rattle.std.proofs.lemmas.Bool.Decides.{nat_tests}
use Rattle.std.proofs.Common.{append_assoc}
use Rattle.tangle_lexer.proofs.lemmas.NameLemmas.{definition-not-found}
use Rattle.tangle_lexer.proofs.names.name_in_documentation.Goals as goal

pub returns-in_default : goal.returns-in_default
returns-in_default c = grind (arith, nat_tests, definition-not-found, append_assoc)
