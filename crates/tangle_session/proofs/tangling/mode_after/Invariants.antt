use Rattle.std.proofs.Common.{◌≡◌, drop}
use Rattle.tangle_files.specs.Edited.{roles_after}
use Rattle.tangle_session.proofs.tangling.mode_after.Given as goal

-- the remaining edits, made from the roles with the marks so far, give what all edits make of the roles
abbrev pub invariant-loop-edit : goal.invariant-loop-edit
invariant-loop-edit l =
    roles_after (record l.roles { marks = l.marks }) (drop l.edit-index l.edits) ≡ roles_after l.roles l.edits
