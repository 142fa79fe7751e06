use Rattle.std.proofs.Common.{sym, ◌∙◌}
use Rattle.std.proofs.lemmas.Result.{err_from_is_err_and}
use Rattle.ctangle_cli.proofs.AnswerLemmas.{none_is_shown, output_is_cut, some_has_bytes}
use Rattle.ctangle_cli.proofs.RunLemmas.{cut_more, whole_from, whole_then_cut, whole_then_whole}
use Rattle.ctangle_cli.proofs.conversation.show.Goals as goal

pub returns-in_default : goal.returns-in_default
returns-in_default g c = rw (none_is_shown c.args.name.now _ (sym c.in_default.is ∙ c.output_size.ensures)) c.say.ensures

pub returns-in_err-say : goal.returns-in_err-say
returns-in_err-say g c =
    let found = some_has_bytes _ c.in-Some.size (sym c.in-Some.is ∙ c.output_size.ensures) in
    let left = err_from_is_err_and c.from_residual.result c.from_residual.ensures.1 in
    rw (found.1, found.2, left.1, ← c.format.ensures.text, ← c.as_bytes.ensures.value)
    (cut_more _ _ _ found.0 c.in_err-say.ensures)

pub returns-in-Ok : goal.returns-in-Ok
returns-in-Ok g c =
    let found = some_has_bytes _ c.in-Some.size (sym c.in-Some.is ∙ c.output_size.ensures) in
    let whole = rw found.1 at c.in-Ok.ensures.written in
    rw (found.1, found.2, ← c.format.ensures.text, ← c.as_bytes.ensures.value)
    (whole_then_whole _ _ _ _ found.0 c.in_ok-say.ensures (whole_from _ _ c.in-Ok.field-0 found.0 whole))

pub returns-in-Err : goal.returns-in-Err
returns-in-Err g c =
    let found = some_has_bytes _ c.in-Some.size (sym c.in-Some.is ∙ c.output_size.ensures) in
    let cut = rw found.1 at c.in-Err.ensures.written in
    rw (found.1, found.2, ← c.format.ensures.text, ← c.as_bytes.ensures.value)
    (whole_then_cut _ _ _ _ found.0 c.in_ok-say.ensures (output_is_cut _ _ found.0 c.in-Err.field-0 cut))
