use Rattle.std.proofs.Common.{arith}
use Rattle.std.proofs.lemmas.Bool.Decides.{nat_tests}
use Rattle.std.proofs.Common.{drop-drop}
use Rattle.tangle_lexer.specs.Names.{count_before_equals}
use Rattle.tangle_lexer.proofs.lemmas.NameLemmas.{equals-here}
use Rattle.tangle_lexer.proofs.names.to_equals.Goals as goal

pub returns-in-Double : goal.returns-in-Double
returns-in-Double c =
    let text = c.args.reader.now in
    let is = equals-here text _ _ c.skip_to_equals.ensures c.equals_at-equals.ensures in
    grind (arith, nat_tests, is, drop-drop 1 (count_before_equals text) text)

pub returns-in_default : goal.returns-in_default
returns-in_default c =
    let is = equals-here c.args.reader.now _ _ c.skip_to_equals.ensures c.equals_at-equals.ensures in
    grind (arith, nat_tests, is)
