-- The table of a web's names.
use Rattle.std.specs.Prelude.{◌≡◌, ◌<◌, ℕ, Bool, List, Option, map}
use Rattle.tangle_names.specs.declared.Resolved.{Resolved}
use Rattle.tangle_names.specs.declared.Resolved.TheVariants.{Name}
use Rattle.tangle_lexer.specs.Occurrences.{OccurrenceRead}
use Rattle.tangle_scan.specs.Web.{WebRead}
use Rattle.tangle_names.specs.Names.{NameText}
use Rattle.tangle_names.specs.Resolving.{first_file_number, first_number, names_in_order, resolve}

-- The full names, the resolution of each occurrence, and for each name the number of its first
-- occurrence and of its first one as a file.
pub record TableRead : Type 0 where
  pub names : List NameText
  pub resolved : List Resolved
  pub first_occurrences : List ℕ
  pub first_file_occurrences : List (Option ℕ)

-- the resolution is one of the first `count` names, or none
abbrev pub IsNameBelow : ℕ → Resolved → Type 0
IsNameBelow count (Name id) = id < count
IsNameBelow count _ = Unit {0}

-- the table of these occurrences
abbrev pub table_over : List OccurrenceRead → TableRead
table_over os = record {
  names = names_in_order os;
  resolved = map (resolve os) os;
  first_occurrences = map (first_number os) (names_in_order os);
  first_file_occurrences = map (first_file_number os) (names_in_order os);
}

-- the table of a web
abbrev pub table_of : WebRead → TableRead
table_of web = table_over web.occurrences

-- how an occurrence is written: its text, whether it is an abbreviation, and whether it has `@(`
abbrev pub written_form : OccurrenceRead → NameText × Bool × Bool
written_form o = (o.text, o.is_abbreviation, o.is_file)

-- the lists of occurrences have the same length, and each old occurrence is written as the new one
-- with its number
abbrev pub AreWrittenAlike : List OccurrenceRead → List OccurrenceRead → Type 0
AreWrittenAlike old new = map written_form old ≡ map written_form new
