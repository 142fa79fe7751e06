-- The files after an edit that is not refused.
use Rattle.std.specs.Prelude.{ℕ, ◌-◌, List, [], ◌∷◌, ◌++◌, take, drop}
use Rattle.std.specs.Option.{option_map_or}
use Rattle.std.specs.Map.{set_value, remove_entry}
use Rattle.std.specs.Str.{bytes_eq}
use Rattle.tangle_files.specs.declared.edits.Edit.{Edit}
use Rattle.tangle_files.specs.declared.edits.Edit.TheVariants.{Insert, Remove, Replace, Create}
use Rattle.tangle_files.specs.declared.edits.Edit.TheVariants.{Discard, Marks}
use Rattle.tangle_files.specs.Lines.{FileTable, lines_of, trimmed}
use Rattle.tangle_files.specs.Roles.{RolesRead}

-- the lines, with those between two positions replaced by new ones
abbrev pub with_replaced : List (List ℕ) → ℕ → List (List ℕ) → ℕ → List (List ℕ)
with_replaced lines start new_lines end = take start lines ++ new_lines ++ drop end lines

-- the files, with `splice` applied to the lines of the file of this name
abbrev pub with_lines_edited : FileTable → List ℕ → (List (List ℕ) → List (List ℕ)) → FileTable
with_lines_edited files name splice =
    option_map_or (λ lines. set_value (bytes_eq name) files (splice lines))
    (lines_of files name) files

-- the files after an edit: line `at` is inserted, removed or replaced; a new file has no lines and
-- is the last; the number of each file after a discarded one decreases by one
abbrev pub edited : FileTable → Edit → FileTable
edited files (Insert file at text) = with_lines_edited files file.items
    (λ lines. with_replaced lines (at - 1) (trimmed text.items ∷ []) (at - 1))
edited files (Remove file at) =
    with_lines_edited files file.items (λ lines. with_replaced lines (at - 1) [] at)
edited files (Replace file at text) = with_lines_edited files file.items
    (λ lines. with_replaced lines (at - 1) (trimmed text.items ∷ []) at)
edited files (Create file) = files ++ (file.items, []) ∷ []
edited files (Discard file) = remove_entry (bytes_eq file.items) files
edited files (Marks mode) = files

-- the files after a list of edits, made in order
abbrev pub edited_all : FileTable → List Edit → FileTable
edited_all files [] = files
edited_all files (edit ∷ edits) = edited_all (edited files edit) edits

-- the roles after an edit: `Marks` sets how line marks are written, and no edit changes a name
abbrev pub edited_roles : RolesRead → Edit → RolesRead
edited_roles roles (Marks mode) = record roles { marks = mode }
edited_roles roles _ = roles

-- the roles after a list of edits
abbrev pub roles_after : RolesRead → List Edit → RolesRead
roles_after roles [] = roles
roles_after roles (edit ∷ edits) = roles_after (edited_roles roles edit) edits

-- the edits of several lists, in order
abbrev pub joined : List (List Edit) → List Edit
joined [] = []
joined (edits ∷ lists) = edits ++ joined lists
