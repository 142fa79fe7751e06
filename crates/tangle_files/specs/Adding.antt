-- Adding a file, with each refusal and the limits that it keeps.
use Rattle.std.specs.Prelude.{ℕ, Bool, ◌≤◌, ◌==◌, ◌&&◌, not, nat_lt, nat_le, length, List, [], ◌∷◌}
use Rattle.std.specs.Prelude.{◌++◌, if◌then◌else◌, Option, None, Some, is_some, map}
use Rattle.std.specs.List.{list_any, All, IsDistinct}
use Rattle.std.specs.Str.{bytes_eq}
use Rattle.tangle_files.specs.declared.refusal.Refusal.{Refusal}
use Rattle.tangle_files.specs.declared.refusal.Refusal.TheVariants.{BadName, FileExists}
use Rattle.tangle_files.specs.declared.refusal.Refusal.TheVariants.{TooManyFiles, LineTooLong}
use Rattle.tangle_files.specs.declared.refusal.Refusal.TheVariants.{TooManyLines}
use Rattle.tangle_files.specs.Bytes.{line_feed}
use Rattle.tangle_files.specs.Lines.{FileTable, lines_of, cut}

-- the most bytes of a file's name and of a line, the
-- most files of a table, and the most lines of a file
abbrev pub longest_name : ℕ
longest_name = 255

abbrev pub longest_line : ℕ
longest_line = 65535

abbrev pub most_files : ℕ
most_files = 256

abbrev pub most_lines : ℕ
most_lines = 1000000

-- a file name: one to 255 bytes without a line feed
abbrev pub is_name : List ℕ → Bool
is_name name =
    nat_lt 0 (length name) && nat_le (length name) longest_name
    && not (list_any (λ b. b == line_feed) name)

abbrev pub has_file : FileTable → List ℕ → Bool
has_file files name = is_some (lines_of files name)

abbrev pub is_too_long : List ℕ → Bool
is_too_long line = nat_lt longest_line (length line)

-- the first of two refusals
abbrev pub or_else : Option Refusal → Option Refusal → Option Refusal
or_else None second = second
or_else (Some refusal) second = Some refusal

-- why no new file may have this name, and why no file may have the lines of these bytes
abbrev pub name_refusal : FileTable → List ℕ → Option Refusal
name_refusal files name =
    if not (is_name name) then Some BadName
    else if has_file files name then Some FileExists
    else if nat_le most_files (length files) then Some TooManyFiles
    else None

abbrev pub cut_refusal : List ℕ → Option Refusal
cut_refusal bytes =
    if list_any is_too_long (cut bytes) then Some LineTooLong
    else if nat_lt most_lines (length (cut bytes)) then Some TooManyLines
    else None

-- the first refusal that applies to adding a file
abbrev pub add_refusal : FileTable → List ℕ → List ℕ → Option Refusal
add_refusal files name bytes = or_else (name_refusal files name) (cut_refusal bytes)

-- no two files have the same name
abbrev pub HasDistinctNames : FileTable → Type 0
HasDistinctNames files = IsDistinct bytes_eq (map (λ file. file.0) files)

-- the files, with a new one appended
abbrev pub with_file : FileTable → List ℕ → List ℕ → FileTable
with_file files name bytes = files ++ (name, cut bytes) ∷ []

-- the limits of every table: of the number of files, of their names, of the lines of each file
pub record IsWithinLimits (files : FileTable) : Type 0 where
  pub count : length files ≤ most_files
  pub names : HasDistinctNames files
  pub lines : All (λ file. length file.1 ≤ most_lines) files
