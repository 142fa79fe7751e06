-- Why an edit, or a list of edits, is refused in a session.
use Rattle.std.specs.Prelude.{ℕ, ◌+◌, List, [], ◌∷◌, Bool, false, ◌||◌, Option, None, Some}
use Rattle.std.specs.Option.{option_map, option_map_or}
use Rattle.std.specs.Str.{bytes_eq}
use Rattle.tangle_files.specs.Edited.{edited}
use Rattle.tangle_files.specs.Adding.{or_else}
use Rattle.tangle_files.specs.Edits.{edit_refusal, refusal_if}
use Rattle.tangle_files.specs.Lines.{FileTable}
use Rattle.tangle_files.specs.Roles.{RolesRead}
use Rattle.tangle_files.specs.declared.edits.Edit.{Edit}
use Rattle.tangle_files.specs.declared.edits.Edit.TheVariants.{Discard}
use Rattle.tangle_files.specs.declared.refusal.Refusal.{Refusal}
use Rattle.tangle_files.specs.declared.refusal.Refusal.TheVariants.{NoMemory, RoleFile}
use Rattle.tangle_session.specs.declared.refusing.ListRefusal.{ListRefusal}

-- the file of this name is the web or the change file
abbrev pub has_role : RolesRead → List ℕ → Bool
has_role roles name = bytes_eq name roles.web || option_map_or (bytes_eq name) roles.change false

-- a file with a role is not discarded
abbrev pub role_refusal : RolesRead → Edit → Option Refusal
role_refusal roles (Discard file) = refusal_if (has_role roles file.items) RoleFile
role_refusal roles edit = None

-- The first refusal that applies to an edit. The files refuse to discard what is no file name or
-- isn't there; this refusal comes before that of the role.
abbrev pub session_refusal : FileTable → RolesRead → Edit → Option Refusal
session_refusal files roles edit = or_else (edit_refusal files edit) (role_refusal roles edit)

-- the refusal of a list whose first edit is refused
abbrev pub of_first : Refusal → ListRefusal
of_first refusal = record { at = 0; refusal = refusal }

-- the same refusal, where one more edit is put before the list
abbrev pub one_later : ListRefusal → ListRefusal
one_later refused = record { at = refused.at + 1; refusal = refused.refusal }

-- the refusal of the first edit, if it is refused, else that of the edits after it
abbrev pub first_refused : Option Refusal → Option ListRefusal → Option ListRefusal
first_refused (Some refusal) after = Some (of_first refusal)
first_refused None after = option_map one_later after

-- The first refusal that applies to a list of edits, each made in the files that the earlier ones
-- left. No edit changes the names that have roles.
abbrev pub list_refusal : FileTable → RolesRead → List Edit → Option ListRefusal
list_refusal files roles [] = None
list_refusal files roles (edit ∷ edits) =
    first_refused (session_refusal files roles edit) (list_refusal (edited files edit) roles edits)

-- running out of memory belongs to no single edit, so its number is 0
abbrev pub list_memory : ListRefusal
list_memory = of_first NoMemory
