use Rattle.std.proofs.Common.{rules}
use Rattle.tangle_text.proofs.PartLemmas.{parts-next}
use Rattle.tangle_text.proofs.runs.RunParts.next.Goals as goal

pub returns-then-is_word_byte-clause-rest : goal.returns-then-is_word_byte-clause-rest
returns-then-is_word_byte-clause-rest c =
    search (rules, parts-next)

pub returns-clause-rest : goal.returns-clause-rest
returns-clause-rest c =
    search (rules, parts-next)
