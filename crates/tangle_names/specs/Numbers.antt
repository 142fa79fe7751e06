-- Names by their numbers, from which the table is built. Most of these definitions are cited only
-- by private contracts.
use Rattle.std.specs.Prelude.{◌≡◌, ◌<◌, ℕ, Bool, true, false, nat_lt, ◌==◌, ◌&&◌, List}
use Rattle.std.specs.Prelude.{length, map, slice_get, slice_index_or, Option}
use Rattle.std.specs.Prelude.{Some, None, option_to_list, if◌then◌else◌}
use Rattle.std.specs.List.{position_or_len}
use Rattle.tangle_lexer.specs.declared.occurrences.OccurrenceRole.{OccurrenceRole}
use Rattle.tangle_lexer.specs.declared.occurrences.OccurrenceRole.TheVariants.{Use}
use Rattle.tangle_names.specs.declared.first_numbers.Counted.{Counted}
use Rattle.tangle_names.specs.declared.first_numbers.Counted.TheVariants.{All, Files, Uses}
use Rattle.tangle_names.specs.declared.Resolved.{Resolved}
use Rattle.tangle_names.specs.declared.Resolved.TheVariants.{Name}
use Rattle.tangle_faults.specs.declared.faults.FaultKind.TheVariants as kind
use Rattle.tangle_faults.specs.Faults.{fault_about, FaultRead}
use Rattle.tangle_scan.specs.Web.{WebRead}
use Rattle.tangle_lexer.specs.Occurrences.{OccurrenceRead}
use Rattle.tangle_names.specs.Faults.{named_place_of}
use Rattle.tangle_names.specs.Names.{NameText}

-- an occurrence with this resolution resolves to the name with this number
abbrev pub is_number : ℕ → Resolved → Bool
is_number id (Name n) = n == id
is_number id _ = false

abbrev pub is_use : OccurrenceRole → Bool
is_use Use = true
is_use _ = false

-- the occurrence is one of those that are counted
abbrev pub is_counted : Counted → OccurrenceRead → Bool
is_counted All o = true
is_counted Files o = o.is_file
is_counted Uses o = is_use o.role

-- the number of the first counted occurrence that resolves to the name with this number, or the
-- number of occurrences where there is none
abbrev pub first_by_number : (OccurrenceRead → Resolved) → Counted → List OccurrenceRead → ℕ → ℕ
first_by_number f counted os id =
    position_or_len (λ o. is_counted counted o && is_number id (f o)) os

-- if the occurrence is counted, this number replaces that of the name to which it resolves
pub record SetsNumber (old new : List ℕ) (is_included : Bool)
    (number : ℕ) (resolved : Resolved) : Type 0 where
  pub size : length new ≡ length old
  pub numbers : (id : ℕ) → id < length old → slice_index_or new id 0
      ≡ (if is_included && is_number id resolved then number else slice_index_or old id 0)

-- the number, if it is below the count
abbrev pub number_below : ℕ → ℕ → Option ℕ
number_below count n = if nat_lt n count then Some n else None

-- the warning for a name that begins another and whose first occurrence has this number
abbrev pub warning : WebRead → ℕ → NameText → List FaultRead
warning web first name =
    map (λ o. fault_about kind.PrefixName (named_place_of web.file_names o.origin) name)
    (option_to_list (slice_get web.occurrences first))
