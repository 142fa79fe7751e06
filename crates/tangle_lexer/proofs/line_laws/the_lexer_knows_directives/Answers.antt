use Rattle.tangle_lexer.proofs.lines.StateLines as law
use Rattle.tangle_lexer.proofs.line_laws.the_lexer_knows_directives.Goals as goal

pub returns : goal.returns
returns c = law.directives-known
