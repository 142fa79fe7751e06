use Rattle.std.proofs.lemmas.Bool.Decides.{nat_tests}
use Rattle.std.proofs.Common.{arith}
use Rattle.tangle_scan.proofs.lemmas.SpacedTokens.{macro_by_first}
use Rattle.tangle_scan.proofs.web_builder.begins_with_name.Goals as goal

pub returns-in-Span-Word-default : goal.returns-in-Span-Word-default
returns-in-Span-Word-default c =
    grind (arith, nat_tests, macro_by_first _ _ c.loop-token.token-index c.loop-token-test.true c.requires)

pub returns-in-Span : goal.returns-in-Span
returns-in-Span c =
    grind (arith, nat_tests, macro_by_first _ _ c.loop-token.token-index c.loop-token-test.true c.requires)

pub loop-token-preserved : goal.loop-token-preserved
loop-token-preserved c =
    grind (arith, nat_tests, macro_by_first _ _ c.loop-token.token-index c.loop-token-test.true c.requires)

pub returns-in-Span-2 : goal.returns-in-Span-2
returns-in-Span-2 c =
    grind (arith, nat_tests, macro_by_first _ _ c.loop-token.token-index c.loop-token-test.true c.requires)
