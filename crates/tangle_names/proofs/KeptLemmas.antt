-- The numbers that a resolution has beside the names, and the faults that are found from them.
use Rattle.std.proofs.Common.{arith}
use Rattle.std.proofs.lemmas.Bool.Decides.{nat_tests}
use Rattle.std.proofs.Common.{rules}
use Rattle.std.proofs.Common.{◌≡◌, ◌<◌, ◌+◌, ◌∙◌, ℕ, Bool, cond, List, [], ◌++◌}
use Rattle.std.proofs.Common.{length, map, flat_map, take, get_or, ap}
use Rattle.std.proofs.Common.{append-nil, option_to_list}
use Rattle.std.proofs.lemmas.List.{get_or-map, get_or_default, take_more}
use Rattle.std.proofs.lemmas.List.Folds.{find_at}
use Rattle.std.proofs.lemmas.List.Concat.{flat_map-append}
use Rattle.tangle_faults.specs.declared.faults.FaultKind.TheVariants as kind
use Rattle.tangle_faults.specs.Faults.{fault_about}
use Rattle.tangle_lexer.specs.Occurrences.{OccurrenceRead}
use Rattle.tangle_scan.specs.Web.{WebRead}
use Rattle.tangle_names.specs.Faults.{begins_another, prefix_fault, named_place_of}
use Rattle.tangle_names.specs.Names.{NameText, full_names}
use Rattle.tangle_names.specs.Numbers.{warning}
use Rattle.tangle_names.specs.NameTable.{TableRead}
use Rattle.tangle_names.specs.Resolution.{IsResolutionOf}
use Rattle.tangle_names.specs.declared.resolution.Resolution.{Resolution}
use Rattle.tangle_names.specs.Resolving.{first_number, first_occurrence, names_in_order}
use Rattle.tangle_names.specs.Sorted.{SameTexts}
use Rattle.tangle_names.proofs.LawLemmas.{same}
use Rattle.tangle_names.proofs.MeaningLemmas.{begins-several, itself}
use Rattle.std.proofs.lemmas.List.Elements.{Contains-get_or}
use Rattle.std.proofs.Common.{Contains}

pub names_same : (os : List OccurrenceRead) (texts : List NameText) → SameTexts (full_names os) texts
    → SameTexts (names_in_order os) texts
names_same os texts same_texts = record {
  over = λ t c. same_texts.over t ((same os t).0 c);
  back = λ t c. (same os t).1 (same_texts.back t c);
}

-- a name begins another full name if it begins another of the names
begins_same : (os : List OccurrenceRead) (name : NameText) → Contains (names_in_order os) name
    → begins_another (full_names os) name ≡ begins_another (names_in_order os) name
begins_same os name c = (let full = itself (full_names os) in (
    let kept = begins-several (names_in_order os) (full_names os) name (names_same os (full_names os) full) c in
    grind (arith, nat_tests, begins-several (full_names os) (full_names os) name full, (same os name).0 c, kept)))

warning-is : (web : WebRead) (name : NameText)
    → warning web (first_number web.occurrences name) name
    ≡ map (λ (o : OccurrenceRead). fault_about kind.PrefixName (named_place_of web.file_names o.origin) name)
    (option_to_list (first_occurrence web.occurrences name))
warning-is web name = search (rules, find_at)

pub warned : (web : WebRead) (r : Resolution) (id : ℕ) (flag : Bool) (first : ℕ) (name d : NameText)
    → IsResolutionOf web.occurrences r → id < length r.names.keys → flag ≡ get_or r.begins.items id flag
    → first ≡ get_or r.first_occurrences.items id first → name ≡ get_or r.names.keys id d
    → flat_map (prefix_fault web) (take (id + 1) (names_in_order web.occurrences))
    ≡ flat_map (prefix_fault web) (take id (names_in_order web.occurrences)) ++ cond flag (warning web first name) []
warned web r id flag first name d h low flagged at is =
    let names = names_in_order web.occurrences in
    let named : r.names.keys ≡ names = ap (λ (t : TableRead). t.names) h.table in
    let inside : id < length names = rw (← named) low in
    let begins = flagged ∙ ap (λ l. get_or l id flag) (rw named at h.kept.begins)
    ∙ get_or-map (begins_another names) names id [] flag inside in
    let number = at ∙ ap (λ (t : TableRead). get_or t.first_occurrences id first) h.table
    ∙ get_or-map (first_number web.occurrences) names id [] first inside in
    let among = begins_same web.occurrences (get_or names id []) (Contains-get_or names id [] inside) in
    let text = is ∙ ap (λ l. get_or l id d) named ∙ get_or_default names id d [] inside in
    let more = take_more names id [] inside in
    rw (begins, number, text) (search (rules, more, among, warning-is, flat_map-append, append-nil))
