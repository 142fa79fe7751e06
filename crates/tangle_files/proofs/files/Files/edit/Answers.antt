use Rattle.tangle_files.proofs.EditLimits.{IsWithinLimits-edited}
use Rattle.tangle_files.proofs.files.Files.edit.Goals as goal

pub invariant_of-self-2 : goal.invariant_of-self-2
invariant_of-self-2 c =
    rw (c.in_ok-make_edit.ensures.ok, c.self.view_is)
    (IsWithinLimits-edited c.args.self.now c.args.edit.now
    c.in_default.ensures (rw (← c.self.view_is) c.self.invariant))
