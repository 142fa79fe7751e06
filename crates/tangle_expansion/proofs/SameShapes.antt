-- The expansion of a node follows from the shapes that the node reaches.
use Rattle.std.proofs.Common.{rules}
use Rattle.std.proofs.lemmas.Bool.Decides.{nat_tests}
use Rattle.std.proofs.Common.{◌≡◌, ◌≢◌, ◌∙◌, ℕ, ◌<◌, ◌≤◌, zero, suc, min, max, List, [], ◌∷◌, map, refl, ap, sym, arith}
use Rattle.std.specs.Prelude.{Contains, sum_by}
use Rattle.std.proofs.lemmas.List.Sums.{sum_by-cons}
use Rattle.digraph.specs.Reach.{Reaches, here, on, ReachesCycle}
use Rattle.digraph.proofs.OrderLemmas.{cycle_used}
use Rattle.tangle_names.proofs.ContainsLemmas.{here as first, map_same, there}
use Rattle.tangle_bodies.specs.Shapes.{Title, Named, Shape, Shapes, Uses, shape_names, shape_titles}
use Rattle.tangle_bodies.specs.Flat.{Symbol, pieces_flat, flat, pieces_weight, weight, greatest_by, pieces_depth, depth}
use Rattle.tangle_bodies.proofs.FlatLemmas.{shape_flat}
use Rattle.tangle_bodies.specs.Meaning.{tags_flat}
use Rattle.tangle_expansion.specs.Affected.{IsExpandable}
use Rattle.tangle_expansion.specs.Expanded.{Expanded, Shared, End, Next, shared_symbols, symbols_of, used_titles}
use Rattle.tangle_expansion.proofs.UsedLemmas.{pieces_depth-use, pieces_weight-use, deeper, heavier}
use Rattle.tangle_expansion.proofs.Weights.{weight-suc, pieces_length}

-- the symbols of a shape are equal if those of the used names are
pub pieces_flat-same : (f g : List ℕ → List Symbol) (node : Title) (shape : Shape)
    → ((name : List ℕ) → Contains (shape_names shape) name → f name ≡ g name)
    → pieces_flat f node 0 shape ≡ pieces_flat g node 0 shape
pieces_flat-same f g node shape same =
    rw (← shape_flat node f 0 0 shape, ← shape_flat node g 0 0 shape, map_same f g (shape_names shape) same) refl

-- depths are equal if those of the used names are
pub greatest-map : {X : Type 0} (f : X → ℕ) (used : List X)
    → greatest_by f used ≡ greatest_by (λ n. n) (map f used)
greatest-map f [] = refl
greatest-map f (x ∷ used) = ap (max (f x)) (greatest-map f used)

pieces_depth-same : (f g : List ℕ → ℕ) (shape : Shape)
    → ((name : List ℕ) → Contains (shape_names shape) name → f name ≡ g name)
    → pieces_depth f shape ≡ pieces_depth g shape
pieces_depth-same f g [] same = refl
pieces_depth-same f g (items ∷ shape) same =
    let names = shape_names (items ∷ shape) in
    rw (greatest-map f names, greatest-map g names, map_same f g names same) refl

-- a cap of a weight or a depth may be put on those of the used names
module _ (cap : ℕ) (f : List ℕ → ℕ) where
  abbrev capped : List ℕ → ℕ
  capped name = min cap (f name)

  names_capped : (names : List (List ℕ))
      → (min cap (sum_by f names) ≡ min cap (sum_by capped names)) × (min cap (greatest_by f names) ≡ greatest_by capped names)
  names_capped [] = (refl, omega arith)
  names_capped (name ∷ names) =
      let rest = names_capped names in
      (omega (arith, sum_by-cons f name names, sum_by-cons capped name names), omega arith)

  pieces_capped : (pieces : Shape)
      → (min (suc cap) (pieces_weight f pieces) ≡ min (suc cap) (pieces_weight capped pieces))
      × (min (suc cap) (pieces_depth f pieces) ≡ pieces_depth capped pieces)
  pieces_capped [] = (refl, omega arith)
  pieces_capped (items ∷ pieces) = grind (arith, nat_tests, names_capped (shape_names (items ∷ pieces)))

-- in the old shapes, each node that the node reaches in the new ones has the same shape
abbrev pub SameReached : Shapes → Shapes → Title → Type 0
SameReached old new node = (other : Title) → Reaches (Uses new) node other → new other ≡ old other

pub same_reached : (fuel : ℕ) (old new : Shapes) (node : Title) → SameReached old new node
    → (flat fuel new node ≡ flat fuel old node) × (depth fuel new node ≡ depth fuel old node)
same_reached zero old new node same = (refl, refl)
same_reached (suc fuel) old new node same =
    let below = λ (name : List ℕ) (u : Uses new node (Named name)).
    same_reached fuel old new (Named name) (λ other r. same other (on u r)) in
    rw (← same node here) (
      pieces_flat-same _ _ node (new node) (λ name u. (below name u).0),
      pieces_depth-same _ _ (new node) (λ name u. (below name u).1),
    )

-- what an expansion gives follows from what these nodes use
shared_same : (old new : Shapes) (shared : Shared) (names : List (List ℕ))
    → ((name : List ℕ) → Contains names name → SameReached old new (Named name))
    → shared_symbols (used_titles new) shared (map Named names) ≡ shared_symbols (used_titles old) shared (map Named names)
shared_same old new End names same = refl
shared_same old new (Next items used rest) [] same = refl
shared_same old new (Next items used rest) (name ∷ names) same =
    let own = same name (first name names) in
    let below = shared_same old new used (shape_names (new (Named name))) (λ n c other r. own other (on {b = Named n} c r)) in
    let more = shared_same old new rest names (λ n c. same n (there name names n c)) in
    λ i. tags_flat (Named name) 0 0 items.bytes items.tags
    ((below ∙ ap (λ s. shared_symbols (used_titles old) used (shape_titles s)) (own (Named name) here)) i) ∷ more i

pub same_symbols : (old new : Shapes) (node : Title) → SameReached old new node → (e : Expanded)
    → symbols_of (used_titles new) node e ≡ symbols_of (used_titles old) node e
same_symbols old new node same e =
    ap (tags_flat node 0 0 e.items.bytes e.items.tags)
    (shared_same old new e.used (shape_names (new node)) (λ n c other r. same other (on {b = Named n} c r))
    ∙ ap (λ s. shared_symbols (used_titles old) e.used (shape_titles s)) (same node here))

-- the expansion of a node that is not too deep, from those of the used names with the same fuel
pub flat_by_uses : (fuel : ℕ) (shapes : Shapes) (node : Title) → depth fuel shapes node < fuel
    → flat fuel shapes node ≡ pieces_flat (λ name. flat fuel shapes (Named name)) node 0 (shapes node)
flat_by_uses zero shapes node h = absurd (omega arith)
flat_by_uses (suc fuel) shapes node h =
    pieces_flat-same (λ name. flat fuel shapes (Named name))
    (λ name. flat (suc fuel) shapes (Named name)) node (shapes node)
    (λ name u. flat_by_uses fuel shapes (Named name)
    (omega (arith, pieces_depth-use (λ other. depth fuel shapes (Named other)) (shapes node) name u)))

-- with one level more, a capped weight and a capped depth are the same
settles : (cap : ℕ) (shapes : Shapes) (node : Title)
    → (min cap (weight (suc cap) shapes node) ≡ min cap (weight cap shapes node))
    × (min cap (depth (suc cap) shapes node) ≡ depth cap shapes node)
settles zero shapes node = (omega arith, omega arith)
settles (suc cap) shapes node = (
  (let more = pieces_capped cap (λ name. weight (suc cap) shapes (Named name)) (shapes node) in
      let less = pieces_capped cap (λ name. weight cap shapes (Named name)) (shapes node) in
      let same : pieces_weight (λ name. min cap (weight (suc cap) shapes (Named name))) (shapes node)
      ≡ pieces_weight (λ name. min cap (weight cap shapes (Named name))) (shapes node) =
      λ i. pieces_weight (λ name. (settles cap shapes (Named name)).0 i) (shapes node) in
      omega (arith, weight-suc (suc cap) shapes node, weight-suc cap shapes node, same)),
  (pieces_capped cap (λ name. depth (suc cap) shapes (Named name)) (shapes node)).1
      ∙ (λ i. pieces_depth (λ name. (settles cap shapes (Named name)).1 i) (shapes node)),
)

-- the capped weight, from the capped weights of the used names: also for a node that reaches a cycle
pub weight_by_uses : (cap : ℕ) (shapes : Shapes) (node : Title)
    → min cap (weight cap shapes node)
    ≡ min cap (pieces_weight (λ name. min cap (weight cap shapes (Named name))) (shapes node))
weight_by_uses cap shapes node =
    let capped = pieces_capped cap (λ name. weight cap shapes (Named name)) (shapes node) in
    omega (arith, weight-suc cap shapes node, (settles cap shapes node).0)

-- the capped depth, from those of the used names
pub depth_by_uses : (fuel : ℕ) (shapes : Shapes) (node : Title)
    → depth fuel shapes node ≡ min fuel (pieces_depth (λ name. depth fuel shapes (Named name)) (shapes node))
depth_by_uses fuel shapes node = sym (settles fuel shapes node).1

-- A node that reaches a cycle is deeper and heavier than any number.

pub cycle_deep_and_heavy : (fuel : ℕ) (shapes : Shapes) (node : Title) → ReachesCycle (Uses shapes) node
    → (fuel ≤ depth fuel shapes node) × (fuel ≤ weight fuel shapes node)
cycle_deep_and_heavy zero shapes node c = (omega arith, omega arith)
cycle_deep_and_heavy (suc fuel) shapes node c =
    let next = cycle_used (Uses shapes) node c.0 c.1 c.2 in
    let more = cycle_deep_and_heavy fuel shapes next.0 next.2 in
    (deeper fuel shapes node next.0 next.1 more.0, heavier fuel shapes node next.0 next.1 more.1)

-- a name with a piece that an expandable node uses is expandable
pub used_expandable : (levels limit : ℕ) (shapes : Shapes) (node : Title) (name : List ℕ)
    → IsExpandable levels limit shapes node → Uses shapes node (Named name) → shapes (Named name) ≢ []
    → IsExpandable levels limit shapes (Named name)
used_expandable levels limit shapes node name e u has =
    let shallow = pieces_depth-use (λ m. depth levels shapes (Named m)) (shapes node) name u in
    let deep = depth_by_uses levels shapes node in
    let light = pieces_weight-use (λ m. weight levels shapes (Named m)) (shapes node) name u in
    search (rules, pieces_length, flat_by_uses)
