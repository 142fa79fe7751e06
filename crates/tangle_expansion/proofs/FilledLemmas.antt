-- A body that determines the shape of a node gives the expansion of the node.
use Rattle.std.proofs.Common.{◌<◌, ◌≡◌, ◌∙◌, ℕ, List, map, sym}
use Rattle.std.specs.Prelude.{Contains, Option}
use Rattle.std.proofs.lemmas.Simd.{map-map}
use Rattle.digraph.specs.Nodes.{Node}
use Rattle.tangle_bodies.specs.Nodes.{title_at}
use Rattle.tangle_bodies.specs.Shapes.{Title, Shapes}
use Rattle.tangle_bodies.specs.Flat.{depth, flat, Symbol}
use Rattle.tangle_bodies.specs.Meaning.{node_flat}
use Rattle.tangle_bodies.specs.NodeBodies.{HoldsShape, body_uses}
use Rattle.tangle_bodies.specs.declared.nodes.NodeBody.{NodeBody}
use Rattle.tangle_bodies.proofs.FlatLemmas.{held_flat}
use Rattle.tangle_expansion.specs.Expanded.{Expanded, expanded, symbols_if_any, symbols_of, used_titles}
use Rattle.tangle_expansion.proofs.SameShapes.{flat_by_uses}
use Rattle.tangle_expansion.proofs.SharedLemmas.{all_shared}
use Rattle.tangle_names.proofs.ContainsLemmas.{map_same}

body_expands : (names : List (List ℕ)) (shapes : Shapes) (levels : ℕ) (node : Title) (body : NodeBody)
    (symbols : Node → List Symbol) → HoldsShape names (shapes node) body → depth levels shapes node < levels
    → ((used : Node) → Contains (body_uses body) used → symbols used ≡ flat levels shapes (title_at names used))
    → node_flat node body.items.value (map symbols (body_uses body)) ≡ flat levels shapes node
body_expands names shapes levels node body symbols h shallow fit =
    let same = map_same symbols (λ used. flat levels shapes (title_at names used)) (body_uses body) fit
    ∙ sym (map-map (flat levels shapes) (title_at names) (body_uses body)) in
    held_flat node names (shapes node) body (flat levels shapes) _ h same ∙ sym (flat_by_uses levels shapes node shallow)

pub body_gives : (names : List (List ℕ)) (shapes : Shapes) (levels : ℕ) (node : Title) (body : NodeBody)
    (shared : Node → Option Expanded) → HoldsShape names (shapes node) body → depth levels shapes node < levels
    → ((used : Node) → Contains (body_uses body) used
    → symbols_if_any (used_titles shapes) (title_at names used) (shared used)
    ≡ flat levels shapes (title_at names used))
    → symbols_of (used_titles shapes) node (expanded body.items.value (map shared (body_uses body)))
    ≡ flat levels shapes node
body_gives names shapes levels node body shared h shallow fit =
    rw (← h.uses, all_shared (used_titles shapes) names shared (body_uses body))
    (body_expands names shapes levels node body _ h shallow fit)
