-- Files as lists of lines, and the cutting of bytes into lines.
use Rattle.std.specs.Prelude.{ℕ, ◌==◌, List, [], ◌∷◌, if◌then◌else◌, map, Option, position, get_or}
use Rattle.std.specs.Prelude.{length, unwrap_or}
use Rattle.std.specs.Str.{bytes_eq}
use Rattle.std.specs.Map.{lookup}
use Rattle.tangle_files.specs.Bytes.{space, line_feed}

-- a byte put in front of a trimmed line: a space alone is a trailing space
abbrev pub before_trimmed : ℕ → List ℕ → List ℕ
before_trimmed b [] = if b == space then [] else b ∷ []
before_trimmed b (c ∷ cs) = b ∷ c ∷ cs

-- a line without its trailing spaces
abbrev pub trimmed : List ℕ → List ℕ
trimmed [] = []
trimmed (b ∷ bs) = before_trimmed b (trimmed bs)

-- a byte put in front of the first line; without lines, it is the only line
abbrev pub before_first_line : ℕ → List (List ℕ) → List (List ℕ)
before_first_line b [] = (b ∷ []) ∷ []
before_first_line b (l ∷ ls) = (b ∷ l) ∷ ls

-- the bytes split at line feeds: the last line may lack its line feed, and no bytes give no lines
abbrev pub raw_lines : List ℕ → List (List ℕ)
raw_lines [] = []
raw_lines (b ∷ bs) =
    if b == line_feed then [] ∷ raw_lines bs else before_first_line b (raw_lines bs)

-- the lines of the bytes, without trailing spaces
abbrev pub cut : List ℕ → List (List ℕ)
cut bytes = map trimmed (raw_lines bytes)

-- the files: names with lines, in the order in which they were added
abbrev pub FileTable : Type 0
FileTable = List (List ℕ × List (List ℕ))

-- the lines of the file of this name
abbrev pub lines_of : FileTable → List ℕ → Option (List (List ℕ))
lines_of files name = lookup (bytes_eq name) files

-- the number of the file of this name, from 0
abbrev pub file_number : FileTable → List ℕ → Option ℕ
file_number files name = position (λ f. bytes_eq name f.0) files

-- the number of the file of this name; if there is none, the count of files, which no file has
abbrev pub file_number_or_count : FileTable → List ℕ → ℕ
file_number_or_count files name = unwrap_or (file_number files name) (length files)

-- the name and the lines of the file of this number: both empty if no file has the number
abbrev pub name_at : FileTable → ℕ → List ℕ
name_at files n = (get_or files n ([], [])).0

abbrev pub lines_at : FileTable → ℕ → List (List ℕ)
lines_at files n = (get_or files n ([], [])).1
