-- The depth of a shape by the names that it uses, and more fuel changes no weight where it exceeds the depth.
use Rattle.std.proofs.Common.{rules}
use Rattle.std.proofs.lemmas.Bool.Decides.{nat_tests}
use Rattle.std.proofs.Common.{◌≡◌, ◌∙◌, ◌<◌, ◌+◌, ℕ, zero, suc, true, List}
use Rattle.std.proofs.Common.{length, ap, arith}
use Rattle.tangle_bodies.specs.Shapes.{Title, Named, Shape, Shapes}
use Rattle.tangle_bodies.specs.Flat.{flat, weight, pieces_depth, depth}
use Rattle.tangle_bodies.specs.Shapes.{shape_names}
use Rattle.tangle_expansion.proofs.SameShapes.{pieces_flat-same}
use Rattle.tangle_expansion.proofs.UsedLemmas.{pieces_depth-use}
use Rattle.tangle_graph.specs.Measures.{greatest_by}
use Rattle.tangle_graph.specs.Outputs.{shape_has_piece}

-- A shape is one level deeper than the deepest name that it uses.
pub depth_counted : (f : List ℕ → ℕ) (shape : Shape)
    → shape_has_piece shape ≡ true → pieces_depth f shape ≡ suc (greatest_by f (shape_names shape))
depth_counted f shape has = search rules

-- More fuel changes nothing where it exceeds the depth.

flat-settles : (fuel more : ℕ) (shapes : Shapes) (node : Title)
    → depth fuel shapes node < fuel → flat (fuel + more) shapes node ≡ flat fuel shapes node
flat-settles zero more shapes node h = absurd (omega arith)
flat-settles (suc fuel) more shapes node h =
    let moved : suc fuel + more ≡ suc (fuel + more) = omega arith in
    ap (λ n. flat n shapes node) moved
    ∙ pieces_flat-same (λ name. flat (fuel + more) shapes (Named name))
    (λ name. flat fuel shapes (Named name)) node (shapes node)
    (λ name u. flat-settles fuel more shapes (Named name)
    (grind (arith, nat_tests, pieces_depth-use (λ other. depth fuel shapes (Named other)) (shapes node) name u)))

pub weight-settles : (fuel more : ℕ) (shapes : Shapes) (node : Title)
    → depth fuel shapes node < fuel → weight (fuel + more) shapes node ≡ weight fuel shapes node
weight-settles fuel more shapes node h = ap length (flat-settles fuel more shapes node h)
