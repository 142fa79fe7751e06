-- Worked files: the lines of bytes, files by name and number, and what is refused at limits.
use Rattle.std.proofs.Common.{rules}
use Rattle.std.proofs.Common.{◌≡◌, ℕ, true, false, List, [], ◌∷◌, None, Some, codes, length}
use Rattle.std.specs.Prelude.{replicate}
use Rattle.std.specs.List.{list_any}
use Rattle.tangle_files.specs.declared.refusal.Refusal.TheVariants.{BadName, FileExists, TooManyFiles}
use Rattle.tangle_files.specs.declared.refusal.Refusal.TheVariants.{LineTooLong, TooManyLines}
use Rattle.tangle_files.specs.Lines.{FileTable, cut, file_number_or_count, lines_at, lines_of, name_at}
use Rattle.tangle_files.specs.Adding.{add_refusal, is_name, is_too_long, name_refusal, with_file}
use Rattle.tangle_files.specs.Roles.{RolesRead, fits, roles_of, roles_refusal}

record Cutting : Type 0 where
  pub no_bytes : cut [] ≡ []
  pub bytes_after_the_last_line_feed : cut (codes "a\nb") ≡ codes "a" ∷ codes "b" ∷ []
  pub empty_lines : cut (codes "\n\n") ≡ [] ∷ [] ∷ []
  pub trailing_spaces : cut (codes " a  b  \n  ") ≡ codes " a  b" ∷ [] ∷ []
  -- a tab and a carriage return stay, with the spaces before them
  pub tab_and_carriage_return : cut (codes "a \t\nb\r \n") ≡ codes "a \t" ∷ codes "b\r" ∷ []

cutting : Cutting
cutting = search rules

abbrev two_files : FileTable
two_files = (codes "a.w", codes "x" ∷ []) ∷ (codes "b.w", []) ∷ []

abbrev roles : List ℕ → List ℕ → RolesRead
roles change out = roles_of (codes "a.w") (Some change) out

record Tables : Type 0 where
  pub by_name : lines_of two_files (codes "a.w") ≡ Some (codes "x" ∷ [])
  pub no_file : lines_of two_files (codes "a") ≡ None
  pub number : file_number_or_count two_files (codes "b.w") ≡ 1
  pub number_of_no_file : file_number_or_count two_files (codes "a") ≡ 2
  pub by_number : (name_at two_files 1) ∷ lines_at two_files 0 ≡ codes "b.w" ∷ codes "x" ∷ []
  pub added : with_file [] (codes "c") (codes "y \n") ≡ (codes "c", codes "y" ∷ []) ∷ []
  pub no_change_file : fits two_files (roles (codes "a.ch") (codes "a.c")) ≡ false
  pub no_output : fits two_files (roles (codes "b.w") (codes "a.c")) ≡ true
  pub bad_change_file : roles_refusal (roles [] (codes "a.c")) ≡ Some BadName
  pub bad_output : roles_refusal (roles (codes "b.w") (codes "a\n.c")) ≡ Some BadName

tables : Tables
tables = search rules

-- `n` files, each named `b`
abbrev files : ℕ → FileTable
files n = replicate n (codes "b", [])

record Limits : Type 0 where
  pub line_feed_in_a_name : is_name (codes "a\nb") ≡ false
  pub longest_name : is_name (replicate 255 97) ≡ true
  pub too_long_a_name : is_name (replicate 256 97) ≡ false
  pub longest_line : is_too_long (replicate 65535 97) ≡ false
  pub too_long_a_line : is_too_long (replicate 65536 97) ≡ true
  -- the first refusal that applies
  pub bad_name : name_refusal (files 256) [] ≡ Some BadName
  pub file_exists : name_refusal (files 256) (codes "b") ≡ Some FileExists
  pub too_many_files : (bytes : List ℕ) → add_refusal (files 256) (codes "a") bytes ≡ Some TooManyFiles
  pub most_files : name_refusal (files 255) (codes "a") ≡ None
  pub line_too_long : (bytes : List ℕ)
      → list_any is_too_long (cut bytes) ≡ true → add_refusal [] (codes "a") bytes ≡ Some LineTooLong
  pub too_many_lines : (bytes : List ℕ) → list_any is_too_long (cut bytes) ≡ false
      → length (cut bytes) ≡ 1000001 → add_refusal [] (codes "a") bytes ≡ Some TooManyLines
  pub most_lines : (bytes : List ℕ) → list_any is_too_long (cut bytes) ≡ false
      → length (cut bytes) ≡ 1000000 → add_refusal [] (codes "a") bytes ≡ None

limits : Limits
limits = search rules
