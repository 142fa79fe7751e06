use Rattle.std.proofs.Common.{◌≡◌, ◌∙◌, ◌++◌, ℕ, List, ap, subst}
use Rattle.tangle_files.specs.Roles.{RolesRead}
use Rattle.tangle_scan.specs.Web.{WebRead, web_of}
use Rattle.tangle_names.specs.Faults.{name_faults}
use Rattle.tangle_names.specs.NameTable.{TableRead, table_of}
use Rattle.tangle_expansion.specs.Numbers.{numbers_of}
use Rattle.tangle_graph.specs.Faults.{graph_faults}
use Rattle.tangle_graph.specs.WebStores.{IsStoreOfWeb}
use Rattle.tangle_session.specs.Headline.{faults_at, source_at, table_at, web_at}
use Rattle.tangle_session.proofs.AnalysisLemmas.{faults_joined}
use Rattle.tangle_session.proofs.analysis.Analysis.build.Goals as goal

pub numbers-requires : goal.numbers-requires
numbers-requires c =
    let is = rw c.in_ok-table.ensures at c.in_ok-made.ensures.store in
    record { store = is.store; names = is.names; pieces = is.grouped }

pub returns-clause-made : goal.returns-clause-made
unfolding faults_at source_at web_at
returns-clause-made c =
    let files = c.args.files.now in
    let to : RolesRead = record c.args.roles.now { marks = c.args.marks } in
    let source_is : c.in_ok-source.source ≡ source_at files to = c.in_ok-source.ensures in
    let web_is : c.in_ok-web.web ≡ web_at files to = c.in_ok-web.ensures.web ∙ ap web_of source_is in
    let table_is : c.in_ok-table.table ≡ table_at files to = c.in_ok-table.ensures ∙ ap table_of web_is in
    let parts = c.into_occurrences_and_faults-occurrences in
    record {
      occurrences = parts.ensures.occurrences ∙ ap (λ (w : WebRead). w.occurrences) web_is;
      table = table_is;
      store = subst (λ (x : WebRead × TableRead × List ℕ). IsStoreOfWeb x.0 x.1 x.2 c.in_ok-made.made.store)
          (λ i. (web_is i, table_is i, c.out.ensures i)) c.in_ok-made.ensures.store;
      numbers = c.in_ok-numbers.ensures ∙ ap (λ w. numbers_of w (table_of w) c.args.marks) web_is;
      faults = faults_joined _ _ _ _ _ _ _ c.in_ok-append.ensures.items
          c.in_ok-append-2.ensures.items
          c.in_ok-append-3.ensures.items
          ∙ (λ i. c.into_faults-faults.ensures i
          ++ (parts.ensures.faults i ++ (c.in_ok-of_names.ensures i ++ c.in_ok-of_graph.ensures i)))
          ∙ (λ i. (source_is i).faults ++ ((web_is i).faults ++ (name_faults (web_is i)
          ++ graph_faults (web_is i) (table_is i) (c.out-2.ensures i))));
    }
