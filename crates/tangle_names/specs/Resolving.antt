-- The full names in order, and the resolution of each occurrence.
use Rattle.std.specs.Prelude.{ℕ, Bool, ◌&&◌, List, [], ◌∷◌, ◌++◌, Option, map, fold, find, position}
use Rattle.std.specs.Prelude.{if◌then◌else◌}
use Rattle.std.specs.List.{list_any, position_or_len}
use Rattle.std.specs.Str.{bytes_eq}
use Rattle.tangle_names.specs.declared.Resolved.{Resolved}
use Rattle.tangle_names.specs.declared.Resolved.TheVariants.{Name, NoFullName, Ambiguous}
use Rattle.tangle_lexer.specs.Occurrences.{OccurrenceRead}
use Rattle.tangle_names.specs.Names.{NameText, Meaning, Nothing, One, Several, full_names, meaning}
use Rattle.tangle_names.specs.Names.{means}

-- the meaning of each occurrence
abbrev pub meanings : List OccurrenceRead → List Meaning
meanings os = map (meaning (full_names os)) os

-- the names, and at the end the one that is meant, unless it is among them
abbrev pub with_name : List NameText → Meaning → List NameText
with_name names (One t) = if list_any (bytes_eq t) names then names else names ++ t ∷ []
with_name names _ = names

-- the names that are meant, each at the place where it is meant first
abbrev pub names_of : List Meaning → List NameText
names_of ms = fold with_name [] ms

-- the full names, in the order of the first occurrences that resolve to them
abbrev pub names_in_order : List OccurrenceRead → List NameText
names_in_order os = names_of (meanings os)

-- the resolution of a meaning, by the number of its name
abbrev pub resolved_meaning : List NameText → Meaning → Resolved
resolved_meaning names Nothing = NoFullName
resolved_meaning names (One t) = Name (position_or_len (bytes_eq t) names)
resolved_meaning names Several = Ambiguous

-- the resolution of an occurrence
abbrev pub resolve : List OccurrenceRead → OccurrenceRead → Resolved
resolve os o = resolved_meaning (names_in_order os) (meaning (full_names os) o)

-- the occurrence resolves to the name
abbrev pub resolves_to : List OccurrenceRead → NameText → OccurrenceRead → Bool
resolves_to os name o = means name (meaning (full_names os) o)

-- the first occurrence of a name is the first that resolves to it
abbrev pub first_occurrence : List OccurrenceRead → NameText → Option OccurrenceRead
first_occurrence os name = find (resolves_to os name) os

-- the number of that occurrence, or the number of all occurrences where there is none
abbrev pub first_number : List OccurrenceRead → NameText → ℕ
first_number os name = position_or_len (resolves_to os name) os

-- The number of the first occurrence with `@(` that resolves to the name. A name is a file if it
-- has one.
abbrev pub first_file_number : List OccurrenceRead → NameText → Option ℕ
first_file_number os name = position (λ o. o.is_file && resolves_to os name o) os
