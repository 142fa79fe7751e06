-- The faults of names.
use Rattle.std.specs.Prelude.{ℕ, Bool, not, List, [], ◌∷◌, ◌++◌, option_to_list, flat_map, map}
use Rattle.std.specs.Prelude.{◌&&◌, slice_index_or, if◌then◌else◌}
use Rattle.std.specs.List.{list_any}
use Rattle.std.specs.Str.{bytes_eq}
use Rattle.tangle_names.specs.declared.Resolved.{Resolved}
use Rattle.tangle_names.specs.declared.Resolved.TheVariants.{Name, NoFullName, Ambiguous}
use Rattle.tangle_lines.specs.declared.origin.Origin.{Origin}
use Rattle.tangle_faults.specs.declared.faults.FaultKind.TheVariants as kind
use Rattle.tangle_faults.specs.Faults.{FaultRead, PlaceRead, fault_about}
use Rattle.tangle_scan.specs.Web.{WebRead}
use Rattle.tangle_lexer.specs.Occurrences.{OccurrenceRead}
use Rattle.tangle_names.specs.Names.{NameText, full_names, begins_with}
use Rattle.tangle_names.specs.Resolving.{names_in_order, resolve, first_occurrence}

-- the line of an origin, with the name of its file
abbrev pub named_place_of : List (List ℕ) → Origin → PlaceRead
named_place_of files origin =
    record { file = slice_index_or files origin.file []; line = origin.line }

-- the fault of an occurrence that resolves to no name
abbrev pub resolution_fault : List (List ℕ) → Resolved → OccurrenceRead → List FaultRead
resolution_fault files (Name id) o = []
resolution_fault files NoFullName o =
    fault_about kind.NoFullName (named_place_of files o.origin) o.text ∷ []
resolution_fault files Ambiguous o =
    fault_about kind.Ambiguous (named_place_of files o.origin) o.text ∷ []

-- the faults of the occurrences, each by its resolution
abbrev pub resolution_faults : List (List ℕ) → (OccurrenceRead → Resolved) → List OccurrenceRead
    → List FaultRead
resolution_faults files f os = flat_map (λ o. resolution_fault files (f o) o) os

-- another of the names begins with this name
abbrev pub begins_another : List NameText → NameText → Bool
begins_another full name =
    list_any (λ other. begins_with name other && not (bytes_eq name other)) full

-- the warning for a name that begins another, at its first occurrence
abbrev pub prefix_fault : WebRead → NameText → List FaultRead
prefix_fault web name = if begins_another (full_names web.occurrences) name
    then map (λ o. fault_about kind.PrefixName (named_place_of web.file_names o.origin) name)
    (option_to_list (first_occurrence web.occurrences name))
    else []

-- all faults of names: those of the occurrences in their order, and then those of the names in
-- their order
abbrev pub name_faults : WebRead → List FaultRead
name_faults web = resolution_faults web.file_names (resolve web.occurrences) web.occurrences
    ++ flat_map (prefix_fault web) (names_in_order web.occurrences)
