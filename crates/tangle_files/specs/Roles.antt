-- The roles of files.
use Rattle.std.specs.Prelude.{ℕ, Bool, true, ◌&&◌, List, if◌then◌else◌, Option, None, Some}
use Rattle.tangle_files.specs.declared.refusal.Refusal.{Refusal}
use Rattle.tangle_files.specs.declared.refusal.Refusal.TheVariants.{BadName}
use Rattle.tangle_files.specs.declared.marks.MarkMode.{MarkMode}
use Rattle.tangle_files.specs.declared.marks.MarkMode.TheVariants.{Full}
use Rattle.tangle_files.specs.Adding.{has_file, is_name}
use Rattle.tangle_files.specs.Lines.{FileTable}

-- the names of the web, of the change file if there is one, and of the main output file, and how
-- line marks are written
pub record RolesRead : Type 0 where
  pub web : List ℕ
  pub change : Option (List ℕ)
  pub out : List ℕ
  pub marks : MarkMode

-- roles with these names: line marks are written in full until an edit changes the mode
abbrev pub roles_of : List ℕ → Option (List ℕ) → List ℕ → RolesRead
roles_of web change out = record { web = web; change = change; out = out; marks = Full }

abbrev pub is_name_if_any : Option (List ℕ) → Bool
is_name_if_any None = true
is_name_if_any (Some name) = is_name name

-- each of the names has to be a file name
abbrev pub roles_refusal : RolesRead → Option Refusal
roles_refusal roles =
    if is_name roles.web && is_name_if_any roles.change && is_name roles.out then None
    else Some BadName

abbrev pub has_file_if_any : FileTable → Option (List ℕ) → Bool
has_file_if_any files None = true
has_file_if_any files (Some name) = has_file files name

-- the table has the web and, if one is named, the change file
abbrev pub fits : FileTable → RolesRead → Bool
fits files roles = has_file files roles.web && has_file_if_any files roles.change
