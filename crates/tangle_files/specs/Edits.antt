-- Why an edit of files is refused.
use Rattle.std.specs.Prelude.{ℕ, ◌+◌, Bool, ◌==◌, ◌&&◌, not, nat_le, length, List, if◌then◌else◌}
use Rattle.std.specs.Prelude.{Option, None, Some}
use Rattle.std.specs.List.{list_any}
use Rattle.std.specs.Option.{option_map_or}
use Rattle.tangle_files.specs.declared.edits.Edit.{Edit}
use Rattle.tangle_files.specs.declared.edits.Edit.TheVariants.{Insert, Remove, Replace, Create}
use Rattle.tangle_files.specs.declared.edits.Edit.TheVariants.{Discard, Marks}
use Rattle.tangle_files.specs.declared.refusal.Refusal.{Refusal}
use Rattle.tangle_files.specs.declared.refusal.Refusal.TheVariants.{BadName, LineTooLong}
use Rattle.tangle_files.specs.declared.refusal.Refusal.TheVariants.{TooManyLines, UnknownFile}
use Rattle.tangle_files.specs.declared.refusal.Refusal.TheVariants.{NoSuchLine, BadLine}
use Rattle.tangle_files.specs.Bytes.{line_feed}
use Rattle.tangle_files.specs.Lines.{FileTable, lines_of, trimmed}
use Rattle.tangle_files.specs.Adding.{is_name, is_too_long, most_lines, name_refusal, or_else}

abbrev pub refusal_if : Bool → Refusal → Option Refusal
refusal_if b refusal = if b then Some refusal else None

-- lines are counted from 1
abbrev pub is_line_number : ℕ → ℕ → Bool
is_line_number at last = nat_le 1 at && nat_le at last

-- why a text cannot be a line
abbrev pub text_refusal : List ℕ → Option Refusal
text_refusal text =
    if list_any (λ b. b == line_feed) text then Some BadLine
    else if is_too_long (trimmed text) then Some LineTooLong
    else None

-- a line may be inserted after the last one too
abbrev pub insert_refusal : List (List ℕ) → ℕ → List ℕ → Option Refusal
insert_refusal lines at text =
    or_else (refusal_if (not (is_line_number at (length lines + 1))) NoSuchLine)
    (or_else (text_refusal text) (refusal_if (nat_le most_lines (length lines)) TooManyLines))

abbrev pub replace_refusal : List (List ℕ) → ℕ → List ℕ → Option Refusal
replace_refusal lines at text =
    or_else (refusal_if (not (is_line_number at (length lines))) NoSuchLine) (text_refusal text)

-- the first refusal that applies: for the name, for a missing file, or by `of_lines` for its lines
abbrev pub refusal_in : FileTable → List ℕ → (List (List ℕ) → Option Refusal) → Option Refusal
refusal_in files name of_lines = or_else (refusal_if (not (is_name name)) BadName)
    (option_map_or of_lines (lines_of files name) (Some UnknownFile))

-- the first refusal that applies to an edit
abbrev pub edit_refusal : FileTable → Edit → Option Refusal
edit_refusal files (Insert file at text) =
    refusal_in files file.items (λ lines. insert_refusal lines at text.items)
edit_refusal files (Remove file at) = refusal_in files file.items
    (λ lines. refusal_if (not (is_line_number at (length lines))) NoSuchLine)
edit_refusal files (Replace file at text) =
    refusal_in files file.items (λ lines. replace_refusal lines at text.items)
edit_refusal files (Create file) = name_refusal files file.items
edit_refusal files (Discard file) = refusal_in files file.items (λ lines. None)
edit_refusal files (Marks mode) = None
