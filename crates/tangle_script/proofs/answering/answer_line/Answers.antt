use Rattle.std.proofs.Common.{rules}
use Rattle.tangle_script.proofs.ConversationLemmas.{one_last}
use Rattle.tangle_script.proofs.answering.answer_line.Goals as goal

pub returns-in-Err : goal.returns-in-Err
returns-in-Err g c = one_last _ _ (search rules) (rw c.parse-request.ensures at c.in-Err.ensures)
