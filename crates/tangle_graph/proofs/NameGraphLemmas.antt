-- The rows of the nodes that bodies use, each once.
use Rattle.std.proofs.Common.{rules}
use Rattle.std.proofs.Common.{◌≡◌, ◌<◌, ◌+◌, ◌++◌, ◌∷◌, ℕ, List, [], length, take, map, get_or}
use Rattle.std.proofs.Common.{arith, All, length-append}
use Rattle.std.specs.Global.{Global}
use Rattle.std.specs.declared.rc.Rc.{Rc}
use Rattle.std.specs.List.Sorted.{IsStrictlyIncreasing}
use Rattle.std.proofs.Math.Decide.{dec_lt}
use Rattle.std.proofs.lemmas.List.{get_or_append_left, get_or_push, length-map, map-append, take_more}
use Rattle.std.proofs.lemmas.Option.{slice_get-get_or}
use Rattle.std.proofs.lemmas.List.Elements.{All-contains, All-map, All-from_get_or, Contains-get_or}
use Rattle.tangle_bodies.specs.NodeBodies.{body_uses}
use Rattle.tangle_bodies.specs.Shapes.{Shapes}
use Rattle.tangle_bodies.specs.declared.nodes.NodeBody.{NodeBody}
use Rattle.digraph.specs.Graph.{Graph, InRange, row_at}
use Rattle.digraph.specs.Nodes.{Node}
use Rattle.digraph.specs.Rows.{IsOnceEach}
use Rattle.tangle_bodies.specs.NodeBodies.{AreBodiesOf, node_bodies}
use Rattle.tangle_graph.specs.NameGraphs.{AreUsesOf}

-- the nodes that bodies use have bodies
pub uses_inside : (shapes : Shapes) (names : List (List ℕ)) (bodies : List (Rc NodeBody Global))
    → AreBodiesOf shapes names (node_bodies bodies)
    → All (All (λ node. node < length bodies)) (map body_uses (node_bodies bodies))
uses_inside shapes names bodies are =
    All-map (All (λ node. node < length bodies)) body_uses (node_bodies bodies) (λ k d h i e low. (
    let own = are.each k (get_or (node_bodies bodies) k d) (slice_get-get_or (node_bodies bodies) k d h) in
    search (rules, length-map)))

module _ (used : List (List Node)) (rows : Graph) (are : AreUsesOf used rows) where
  pub each_increasing : All IsStrictlyIncreasing rows
  each_increasing = All-from_get_or IsStrictlyIncreasing rows []
      (λ n h. (are.once n (omega arith)).increasing)

  -- the nodes of the names are nodes of the graph
  pub each_in_range : All (All (λ node. node < length used)) used → InRange rows
  each_in_range all = All-from_get_or (All (λ m. m < length rows)) rows [] (λ n h j d l. (
      let low : n < length used = omega (arith, are.size) in
      let has = ((are.once n low).same _).0 (Contains-get_or (row_at rows n) j d l) in
      omega (arith, All-contains (λ node. node < length used) _ _ (all n [] low) has, are.size)))

pub uses_push : (used : List (List Node)) (rows : Graph) (own row : List Node)
    → AreUsesOf used rows → IsOnceEach own row → AreUsesOf (used ++ own ∷ []) (rows ++ row ∷ [])
uses_push used rows own row are is = record {
  size = omega (arith, length-append rows (row ∷ []), length-append used (own ∷ []));
  once = λ n h. elim (dec_lt n (length used)) [
    | yes low ↦ rw (
      get_or_append_left used (own ∷ []) [] n low,
      get_or_append_left rows (row ∷ []) [] n (omega arith),
    ) (are.once n low)
    | no past ↦ search (rules, length-append, get_or_push)
  ];
}

-- one more body
pub uses_more : (bodies : List (Rc NodeBody Global)) (i : ℕ) (body : Rc NodeBody Global)
    → i < length bodies → body ≡ get_or bodies i body
    → map body_uses (node_bodies (take (i + 1) bodies))
    ≡ map body_uses (node_bodies (take i bodies)) ++ body_uses body.value ∷ []
uses_more bodies i body low read = simp (take_more bodies i body low, map-append) (cc read)
