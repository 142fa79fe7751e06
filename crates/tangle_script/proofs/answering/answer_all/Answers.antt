use Rattle.std.proofs.lemmas.Result.{err_from_is_err_and}
use Rattle.tangle_script.proofs.ConversationLemmas.{under_last}
use Rattle.tangle_script.proofs.answering.answer_all.Goals as goal

pub returns-in_err-answer_line-clause-answered : goal.returns-in_err-answer_line-clause-answered
returns-in_err-answer_line-clause-answered g c =
    let left = err_from_is_err_and c.from_residual.result c.from_residual.ensures.1 in
    rw (left.1, left.2) (under_last c.loop-found.invariant _ _ c.in-Some.found.rest.now c.in-Some.ensures.commands
    c.in_err-answer_line.ensures)
