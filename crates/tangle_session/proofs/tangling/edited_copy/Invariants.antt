use Rattle.std.proofs.Common.{◌≡◌, drop, true}
use Rattle.tangle_files.specs.Roles.{fits}
use Rattle.tangle_files.specs.Edited.{edited_all}
use Rattle.tangle_session.specs.Edits.{list_refusal}
use Rattle.tangle_session.proofs.EditLemmas.{refused_from}
use Rattle.tangle_session.proofs.tangling.edited_copy.Given as goal

-- making the remaining edits in the copy gives what all edits make of the files, and refuses what they refuse
abbrev pub invariant-loop-at : goal.invariant-loop-at
invariant-loop-at l = record {
  made : edited_all l.copy (drop l.at l.edits) ≡ edited_all l.files l.edits;
  refused : refused_from l.at l.copy l.roles (drop l.at l.edits) ≡ list_refusal l.files l.roles l.edits;
  fits : fits l.copy l.roles ≡ true;
}
