use Rattle.tangle_lexer.proofs.lemmas.DotLemmas.{ends_with_dots}
use Rattle.tangle_lexer.proofs.names.is_abbreviation.Goals as goal

pub returns : goal.returns
returns c = ends_with_dots c.args.name.now c.ends_with_str.result c.ends_with_str.ensures
