use Rattle.std.proofs.Common.{arith}
use Rattle.std.proofs.lemmas.Bool.Decides.{nat_tests}
use Rattle.tangle_lexer.specs.Names.{equals_in, equals_last}
use Rattle.tangle_lexer.proofs.lemmas.NameLemmas.{passes-on}
use Rattle.tangle_lexer.proofs.names.pass_equals.Goals as goal

pub returns : goal.returns
returns c =
    let text = c.args.reader.now in
    passes-on c.args.is_ended (equals_in text) (equals_last text) c.args.last _ text c.to_equals.new.reader _
    (grind (arith, nat_tests)) (grind arith) (grind arith) (grind arith) (grind arith)
