use Rattle.std.proofs.Common.{◌∙◌, ap}
use Rattle.std.specs.List.{list_any}
use Rattle.tangle_faults.specs.Faults.{is_error}
use Rattle.ctangle_cli.proofs.conversation.SessionProjectProject.has_error.Goals as goal

pub returns : goal.returns
returns c = λ draft. c.is_error_among.ensures ∙ ap (list_any is_error) c.faults.ensures
