use Rattle.std.proofs.Common.{arith}
use Rattle.std.proofs.lemmas.Bool.Decides.{nat_tests}
use Rattle.tangle_lexer.specs.declared.lexeme_kinds.ControlCode.TheVariants as code
use Rattle.tangle_lexer.specs.declared.lexeme_kinds.LexemeKind.TheVariants as lexeme_kind
use Rattle.tangle_lexer.proofs.lemmas.PlainLexemes.{kind-plain}
use Rattle.tangle_lexer.proofs.steps.c_code.Goals as goal

pub returns-in-AsciiConstant-clause-no_occurrence : goal.returns-in-AsciiConstant-clause-no_occurrence
returns-in-AsciiConstant-clause-no_occurrence c =
    grind (arith, nat_tests, kind-plain (lexeme_kind.Control code.AsciiConstant))
