-- The resolution of the names depends only on how the occurrences are written.
use Rattle.std.proofs.Common.{arith}
use Rattle.std.proofs.Common.{rules}
use Rattle.std.proofs.lemmas.Bool.Decides.{nat_tests}
use Rattle.std.proofs.Common.{◌≡◌, ◌<◌, ◌∙◌, ℕ, Bool, List, [], ◌∷◌, length, map}
use Rattle.std.proofs.Common.{get_or, refl, ap, sym}
use Rattle.std.proofs.lemmas.List.{get_or-map}
use Rattle.std.proofs.lemmas.Simd.{map-map}
use Rattle.tangle_lexer.specs.declared.occurrences.OccurrenceRole.TheVariants.{Mention}
use Rattle.tangle_lexer.specs.Occurrences.{OccurrenceRead}
use Rattle.tangle_names.specs.Names.{NameText, full_names}
use Rattle.tangle_names.specs.NameTable.{AreWrittenAlike, table_over, written_form}
use Rattle.tangle_names.specs.Resolving.{first_file_number, first_number, names_in_order, resolve}
use Rattle.tangle_names.proofs.KeyLemmas.{position_or_len-map, position-map}

-- an occurrence that is written like this, without role and origin
abbrev plain : NameText × Bool × Bool → OccurrenceRead
plain w =
    record { text = w.0; is_abbreviation = w.1; is_file = w.2; role = Mention; origin = record { file = 0; line = 0 } }

abbrev bare : OccurrenceRead → OccurrenceRead
bare o = plain (written_form o)

full-bare : (os : List OccurrenceRead) → full_names (map bare os) ≡ full_names os
full-bare [] = refl
full-bare (o ∷ os) = grind (arith, nat_tests, full-bare os)

module _ (os : List OccurrenceRead) where
  names-bare : names_in_order (map bare os) ≡ names_in_order os
  names-bare = search (rules, full-bare, map-map)

  resolved-bare : map (resolve (map bare os)) (map bare os) ≡ map (resolve os) os
  resolved-bare = search (rules, full-bare, map-map)

  first-bare : (name : NameText) → first_number (map bare os) name ≡ first_number os name
  first-bare name = search (rules, full-bare, position_or_len-map)

  first_file-bare : (name : NameText) → first_file_number (map bare os) name ≡ first_file_number os name
  first_file-bare name = search (rules, full-bare, position-map)

  table-bare : table_over (map bare os) ≡ table_over os
  table-bare = search (rules, names-bare, resolved-bare, first-bare, first_file-bare)

bare-alike : (old new : List OccurrenceRead) → AreWrittenAlike old new → map bare old ≡ map bare new
bare-alike old new alike = cc (map-map plain written_form old, map-map plain written_form new, alike)

pub table_alike : (old new : List OccurrenceRead) → AreWrittenAlike old new → table_over old ≡ table_over new
table_alike old new alike = sym (table-bare old) ∙ (ap table_over (bare-alike old new alike) ∙ table-bare new)

pub alike_at : (old new : List OccurrenceRead) (i : ℕ) (o n : OccurrenceRead)
    → AreWrittenAlike old new → i < length old → i < length new → o ≡ get_or old i o → n ≡ get_or new i n
    → written_form o ≡ written_form n
alike_at old new i o n alike h g at by = cc (
  get_or-map written_form old i o (written_form o) h,
  get_or-map written_form new i n (written_form o) g,
  alike,
)
