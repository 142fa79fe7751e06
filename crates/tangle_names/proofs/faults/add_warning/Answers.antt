use Rattle.std.proofs.Common.{rules, append-nil}
use Rattle.std.proofs.lemmas.Option.{slice_get_past}
use Rattle.tangle_names.proofs.faults.add_warning.Goals as goal

pub returns-in_default : goal.returns-in_default
returns-in_default c = search (rules, slice_get_past, append-nil)
