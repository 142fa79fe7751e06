-- The laws of the headline: no cycle below an output, and each cycle reported.
use Rattle.std.proofs.Common.{rules}
use Rattle.std.proofs.lemmas.Bool.Decides.{nat_tests}
use Rattle.std.proofs.Common.{◌≡◌, ◌∙◌, ◌<◌, ℕ, List, [], ◌∷◌, length}
use Rattle.std.proofs.Common.{flat_map, get_or, refl, arith}
use Rattle.std.specs.Prelude.{Some, Contains}
use Rattle.std.proofs.lemmas.List.{get_or-map, get_or_default}
use Rattle.std.proofs.lemmas.List.Elements.{Contains-append_left, Contains-append_right}
use Rattle.std.proofs.lemmas.List.Folds.{find_at}
use Rattle.tangle_faults.specs.Faults.{FaultRead, fault_about}
use Rattle.tangle_files.specs.Lines.{FileTable}
use Rattle.tangle_files.specs.Roles.{RolesRead}
use Rattle.tangle_faults.specs.declared.faults.FaultKind.TheVariants as kind
use Rattle.tangle_lexer.specs.Occurrences.{OccurrenceRead}
use Rattle.tangle_scan.specs.Web.{WebRead}
use Rattle.tangle_names.specs.Faults.{name_faults, named_place_of}
use Rattle.tangle_names.specs.NameTable.{table_of}
use Rattle.tangle_names.specs.Resolving.{first_occurrence}
use Rattle.tangle_expansion.specs.Limits.{levels, heaviest}
use Rattle.tangle_bodies.specs.Shapes.{Named, Uses}
use Rattle.digraph.specs.Reach.{ContainsItself}
use Rattle.tangle_graph.specs.Faults.{faults_of_names, graph_faults}
use Rattle.tangle_graph.proofs.CycleLemmas.{contains_computed}
use Rattle.tangle_bodies.specs.Nodes.{title_at}
use Rattle.tangle_graph.proofs.NodeMeasureLemmas.{there}
use Rattle.tangle_graph.proofs.OutputLemmas.{outputs_fit}
use Rattle.tangle_names.proofs.LawLemmas.{occur}
use Rattle.tangle_bodies.proofs.InsideLemmas.{table_inside}
use Rattle.tangle_expansion.proofs.Unaffected as unaffected
use Rattle.tangle_session.specs.Headline.{EachCycleIsReported, NoOutputReachesACycle, faults_at}
use Rattle.tangle_session.specs.Headline.{source_at, web_at}
use Rattle.tangle_session.specs.Sessions.{shapes_of}
use Rattle.tangle_names.proofs.FirstLemmas.{some_of}
use Rattle.digraph.proofs.UserLemmas.{in_range}

-- no cycle below an output

pub no_cycle : (files : FileTable) (roles : RolesRead) → NoOutputReachesACycle files roles
no_cycle files roles output other listed r = (let web = web_at files roles in
    let fit = outputs_fit web (table_of web) (table_inside web) roles.out output listed in
    let none = unaffected.no_cycle levels heaviest (shapes_of web) (title_at (table_of web).names output.node) in
    grind (arith, nat_tests, none))

-- each cycle is reported

in_mapped : (g : ℕ → List FaultRead) (ns : List ℕ) (k : ℕ) (x : FaultRead)
    → Contains ns k → Contains (g k) x → Contains (flat_map g ns) x
in_mapped g [] k x c d = absurd (omega arith)
in_mapped g (n ∷ ns) k x c d =
    grind (arith, nat_tests, in_mapped g ns k x, Contains-append_left (g n), Contains-append_right (g n))

module _ (web : WebRead) (out : List ℕ) (id : ℕ) (name : List ℕ) (o : OccurrenceRead)
    (low : id < length (table_of web).names) (text : get_or (table_of web).names id [] ≡ name)
    (contains : ContainsItself (Uses (shapes_of web)) (Named name))
    (first : first_occurrence web.occurrences name ≡ Some o) where
  abbrev fault : FaultRead
  fault = fault_about kind.SelfContaining (named_place_of web.file_names o.origin) name

  pub reported : Contains (graph_faults web (table_of web) out) fault
  reported = (
      let of = faults_of_names web (table_of web) out in
      Contains-append_right (of kind.Undefined) _ fault (Contains-append_right (of kind.Unused) _ fault
      (Contains-append_left (of kind.SelfContaining) _ fault (in_mapped _ _ id fault (in_range _ id low)
      (search (rules, get_or-map, find_at, text, contains_computed web (table_of web) refl (Named name)))))))

pub reported_in : (files : FileTable) (roles : RolesRead) → EachCycleIsReported files roles
unfolding faults_at
reported_in files roles name c =
    let web = web_at files roles in
    let found = there (table_of web) (table_inside web) name web.pieces (search rules) in
    let o = some_of (first_occurrence web.occurrences name) (occur web.occurrences name (found.0, found.1, get_or_default (table_of web).names found.0 name [] found.1 ∙ found.2)) in
    record {
      occurrence = o.0;
      is_first = o.1;
      reported = Contains-append_right (source_at files roles).faults _ _
          (Contains-append_right web.faults _ _ (Contains-append_right (name_faults web) _ _
          (reported web roles.out found.0 name o.0 found.1 found.2 c o.1)));
    }
