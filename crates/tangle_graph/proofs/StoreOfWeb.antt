-- A store with the bodies, the graph and the measures of a web is that of the web's shapes.
use Rattle.std.proofs.Common.{rules}
use Rattle.std.proofs.lemmas.Bool.Decides.{nat_tests}
use Rattle.std.proofs.Common.{◌≡◌, ◌≢◌, ◌∙◌, ◌≤◌, ◌<◌, ◌+◌, ◌↔◌, ℕ, suc, true, List, length, map}
use Rattle.std.proofs.Common.{ap, sym, inl, inr, arith}
use Rattle.std.specs.Prelude.{AllPairs, Contains}
use Rattle.std.specs.List.Sorted.{IsStrictlyIncreasing}
use Rattle.std.proofs.lemmas.List.Elements.{All-contains}
use Rattle.std.proofs.lemmas.List.Kept.{AllPairs-from_increasing}
use Rattle.tangle_scan.specs.Web.{WebRead, PieceRead}
use Rattle.tangle_names.specs.NameTable.{TableRead, table_of}
use Rattle.tangle_bodies.specs.Shapes.{Title, Named, Shapes, Uses}
use Rattle.tangle_bodies.specs.Flat.{depth}
use Rattle.tangle_bodies.specs.NodeBodies.{body_uses}
use Rattle.tangle_bodies.specs.Nodes.{title_at}
use Rattle.tangle_bodies.specs.WebShapes.{shapes, shape_item}
use Rattle.digraph.specs.Graph.{HasUse, row_at}
use Rattle.digraph.specs.Titles.{IsTitled}
use Rattle.digraph.proofs.GraphLemmas.{use_in, node_in}
use Rattle.digraph.proofs.OrderLemmas.{left_out_deep}
use Rattle.digraph.proofs.TitleLemmas.{contains_alike, cycle_alike}
use Rattle.digraph.specs.Reach.{ReachesCycle}
use Rattle.tangle_bodies.specs.declared.nodes.NodeBody.{NodeBody}
use Rattle.tangle_expansion.specs.Limits.{levels}
use Rattle.tangle_expansion.specs.Outputs.{OutputRead}
use Rattle.tangle_expansion.proofs.UsedLemmas.{deeper}
use Rattle.tangle_bodies.specs.NodeBodies.{AreBodiesOf}
use Rattle.tangle_graph.specs.Measures.{AreMeasures, measure_at}
use Rattle.tangle_graph.specs.NameGraphs.{IsNameGraphOf}
use Rattle.tangle_graph.specs.Ordering.{IsOrderIn}
use Rattle.tangle_graph.specs.Stores.{StoreRead, IsStoreOf, flag_at}
use Rattle.tangle_graph.specs.declared.measures.Measure.{Measure}
use Rattle.tangle_graph.specs.declared.name_graph.NameGraph.{NameGraph}
use Rattle.tangle_graph.proofs.GraphLemmas.{complete, distinct_names, resolves_inside, sound, uses_count}
use Rattle.tangle_graph.proofs.NodeLemmas.{once_titled}
use Rattle.digraph.proofs.UserLemmas.{among}
use Rattle.tangle_graph.proofs.NodeMeasureLemmas.{expandable_is, there}
use Rattle.std.proofs.Common.{not}

apart : (row : List ℕ) → IsStrictlyIncreasing row → AllPairs (λ b c. b ≢ c) row
apart row rising i j d low high e = absurd (omega (arith, AllPairs-from_increasing row rising i j d low high))

module _ (web : WebRead) (table : TableRead) (stored : List NodeBody) (name_graph : NameGraph)
    (of_web : table ≡ table_of web) (bodies : AreBodiesOf (shapes web table) table.names stored)
    (is : IsNameGraphOf (map body_uses stored) name_graph) where
  abbrev all : Shapes
  all = shapes web table

  abbrev names : List (List ℕ)
  names = table.names

  abbrev order : List ℕ
  order = name_graph.order.nodes.items

  abbrev title : ℕ → Title
  title n = title_at names n

  count : length name_graph.uses ≡ length names + 1
  count = uses_count all names stored name_graph.uses bodies is.uses

  here : (a : ℕ) → a ≤ length names → a < length name_graph.uses
  here a h = omega (arith, count)

  titled : IsTitled name_graph.uses (Uses all) (title_at names)
  titled = record {
    once = search (rules, once_titled, count, distinct_names web table of_web);
    sound = sound all names stored name_graph.uses bodies is.uses;
    complete = complete all names stored name_graph.uses bodies is.uses;
  }

  uses_are : (a b : ℕ) → a ≤ length names
      → HasUse name_graph.uses a b ↔ ((b ≤ length names) × Uses all (title a) (title b))
  uses_are a b ha =
      let inside = use_in name_graph.uses is.range a b in
      grind (arith, nat_tests, inside, count, titled.sound a b, titled.complete a (title b), titled.once)

  users_are : (a b : ℕ) → a ≤ length names
      → HasUse name_graph.users a b ↔ ((b ≤ length names) × Uses all (title b) (title a))
  users_are a b ha =
      let inside = node_in name_graph.uses b a in
      grind (arith, nat_tests, (is.users.reversed b a), inside, count, titled.sound b a, uses_are b a)

  -- a node reaches a name that contains itself, if it does so in the graph of numbers
  pub reaching_is : (n : ℕ) → n ≤ length names
      → (not (flag_at name_graph.order.acyclic.items n) ≡ true) ↔ ReachesCycle (Uses all) (title n)
  reaching_is n low =
      grind (arith, nat_tests, cycle_alike name_graph.uses (Uses all) (title_at names) titled n, here n low)

  module _ (pieces : List (List ℕ)) (measures : List Measure) (outputs : List OutputRead)
      (sized : length measures ≡ length name_graph.uses) (measured : AreMeasures all names measures) where
    abbrev made : List (List ℕ) → StoreRead
    made ns = record {
      names = ns;
      pieces = pieces;
      uses = name_graph.uses;
      users = name_graph.users;
      self_containing = name_graph.self_containing.items;
      acyclic = name_graph.order.acyclic.items;
      measures = measures;
      outputs = outputs;
      bodies = stored;
    }

    store_is : IsStoreOf all (made names)
    store_is = record {
      measures_size = sized ∙ count;
      measures = measured;
      bodies = bodies;
      once = λ a b ha hb. titled.once a b (here a ha) (here b hb);
      known = λ name has. (
          let found = there table (resolves_inside web table of_web) name web.pieces
          (λ none. has (ap (map (λ (p : PieceRead). map (shape_item web.texts table) p.items)) none)) in
          (suc found.0, omega arith, ap Named found.2));
      uses = uses_are;
      users = users_are;
      uses_once = λ a ha. apart (row_at name_graph.uses a)
          (is.uses.once a (omega (arith, here a ha))).increasing;
      users_once = λ a ha. apart (row_at name_graph.users a) (is.users.increasing a);
      contains_itself = λ a ha. (
          let alike = contains_alike name_graph.uses (Uses all) (title_at names) titled a (here a ha) in
          grind (arith, nat_tests, here a ha));
    }

    order_is : IsOrderIn (made names) order
    order_is = record {
      inside = λ n c. (
          let low : n < length name_graph.uses =
          All-contains (λ m. m < length name_graph.uses) order n is.order.after_uses.nodes c in
          omega (arith, count));
      once = is.order.after_uses.once;
      after = is.order.after_uses.after;
      expandable = expandable;
    }
      where
        expandable : (n : ℕ) → n ≤ length names → (measure_at measures n).is_expandable ≡ true → Contains order n
        expandable n h flag = elim (among order n) [
          | inl c ↦ c
          | inr none ↦ (let flagged = (expandable_is all (title n)).0
              (sym (ap (λ (m : Measure). m.is_expandable) (measured n h)) ∙ flag) in
              absurd (omega (arith, left_out_deep name_graph.uses order is.order is.range (λ k m. k ≤ depth k all (title m)) (λ m. omega arith) (λ k a b u. deeper k all (title a) (title b) (titled.sound a b u)) levels n (here n h) none)))
        ]

    -- what `Store::build` makes
    pub is_built : (ns : List (List ℕ)) → ns ≡ names → IsStoreOf all (made ns) × IsOrderIn (made ns) order
    is_built ns named = rw named (store_is, order_is)
