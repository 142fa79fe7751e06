use Rattle.std.proofs.Common.{◌∙◌, ap, sym}
use Rattle.std.specs.Option.{option_copied}
use Rattle.std.proofs.lemmas.Result.{err_from_is_err_and}
use Rattle.tangle_loading.proofs.StepLemmas.{step_begins, step_next}
use Rattle.tangle_loading.proofs.loading.read_needed.Goals as goal

pub returns-in_err-read_once : goal.returns-in_err-read_once
returns-in_err-read_once g c =
    let left = err_from_is_err_and c.from_residual.result c.from_residual.ensures.1 in
    rw (left.1, left.2)
    (record { to = (step_next step_begins (rw c.web.ensures at c.in_err-read_once.ensures)).to })

pub returns-in-Some : goal.returns-in-Some
returns-in-Some g c =
    rw (sym c.change.ensures ∙ ap option_copied c.in-Some.is)
    (step_next (step_next step_begins (rw c.web.ensures at c.in_ok-read_once.ensures)) c.read_once-in-Some.ensures)
