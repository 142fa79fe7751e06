use Rattle.std.proofs.lemmas.Result.{err_from_is_err_and}
use Rattle.ctangle_cli.proofs.RunLemmas.{answer_then, cut_more}
use Rattle.ctangle_cli.proofs.conversation.list_faults.Goals as goal

pub returns-in_err-say : goal.returns-in_err-say
returns-in_err-say g c =
    let left = err_from_is_err_and c.from_residual.result c.from_residual.ensures.1 in
    rw (left.1, ← c.format.ensures.text, ← c.as_bytes.ensures.value) (cut_more _ _ _ _ c.in_err-say.ensures)

pub returns : goal.returns
returns g c =
    rw (← c.format.ensures.text, ← c.as_bytes.ensures.value)
    (answer_then _ _ _ _ _ c.write_faults.result c.in_ok-say.ensures c.write_faults.ensures)
