-- The parts of a web's names that depend on no origin. Only private contracts cite these
-- definitions.
use Rattle.std.specs.Prelude.{◌≡◌, List, length, map, All}
use Rattle.tangle_lexer.specs.Occurrences.{OccurrenceRead}
use Rattle.tangle_names.specs.declared.resolution.Resolution.{Resolution}
use Rattle.tangle_names.specs.Faults.{begins_another}
use Rattle.tangle_names.specs.NameTable.{IsNameBelow, TableRead, table_over}
use Rattle.tangle_names.specs.Numbers.{number_below}

-- a resolution as a table
abbrev pub table_read : Resolution → TableRead
table_read r = record {
  names = r.names.keys;
  resolved = r.resolved.items;
  first_occurrences = r.first_occurrences.items;
  first_file_occurrences =
      map (number_below (length r.resolved.items)) r.first_file_occurrences.items;
}

-- Each occurrence resolves to one of the names, or to none. Each name has a first occurrence and a
-- flag, which says whether the name begins another.
pub record ResolutionInvariant (r : Resolution) : Type 0 where
  pub inside : All (IsNameBelow (length r.names.keys)) r.resolved.items
  pub first_occurrences : length r.first_occurrences.items ≡ length r.names.keys
  pub first_file_occurrences : length r.first_file_occurrences.items ≡ length r.names.keys
  pub begins : r.begins.items ≡ map (begins_another r.names.keys) r.names.keys

-- the resolution is that of the occurrences
pub record IsResolutionOf (os : List OccurrenceRead) (r : Resolution) : Type 0 where
  pub table : table_read r ≡ table_over os
  pub kept : ResolutionInvariant r
