use Rattle.tangle_lexer.proofs.lines.PartLines as law
use Rattle.tangle_lexer.proofs.line_laws.directives_are_lines_of_c.Goals as goal

pub returns-clause-inner : goal.returns-clause-inner
returns-clause-inner c lines k d lt = (law.parts-right lines k d lt).inner

pub returns-clause-uses : goal.returns-clause-uses
returns-clause-uses c lines k d lt = (law.parts-right lines k d lt).uses
