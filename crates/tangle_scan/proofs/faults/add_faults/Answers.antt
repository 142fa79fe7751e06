use Rattle.std.proofs.lemmas.Bool.Decides.{nat_tests}
use Rattle.std.proofs.Common.{arith, append_assoc}
use Rattle.tangle_lexer.specs.Runs.{IsRunIn}
use Rattle.tangle_lexer.specs.declared.tokens.Token.TheVariants as token
use Rattle.tangle_scan.specs.Rules.{texts_of}
use Rattle.tangle_scan.proofs.lemmas.RestLemmas.{split, all-rest}
use Rattle.tangle_scan.proofs.faults.add_faults.Goals as goal

pub loop-left-preserved : goal.loop-left-preserved
loop-left-preserved c =
    let left = c.loop-left.left.now in
    grind (arith, nat_tests, append_assoc, split left, all-rest (IsRunIn (texts_of c.args.source.now.lines)) left, c.loop-left.invariant.runs 0 token.Section)
