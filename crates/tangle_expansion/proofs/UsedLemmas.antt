-- A used name is less deep than its user, and weighs less.
use Rattle.std.proofs.lemmas.Bool.Decides.{nat_tests}
use Rattle.std.proofs.Common.{◌≤◌, ℕ, suc, List, [], ◌∷◌, arith}
use Rattle.std.specs.Prelude.{Contains, sum_by}
use Rattle.std.proofs.lemmas.List.Sums.{sum_by-cons}
use Rattle.tangle_names.proofs.ContainsLemmas.{no_item}
use Rattle.tangle_bodies.specs.Shapes.{Title, Named, Shape, Shapes, Uses, shape_names}
use Rattle.tangle_bodies.specs.Flat.{greatest_by, pieces_weight, pieces_depth, weight, depth}
use Rattle.tangle_expansion.proofs.Weights.{weight-suc}

module _ (f : List ℕ → ℕ) where
  at_most : (names : List (List ℕ)) (name : List ℕ)
      → Contains names name → (f name ≤ sum_by f names) × (f name ≤ greatest_by f names)
  at_most [] name c = absurd (no_item name c)
  at_most (first ∷ names) name c = grind (arith, nat_tests, sum_by-cons, at_most names name)

  pub pieces_depth-use : (pieces : Shape) (name : List ℕ)
      → Contains (shape_names pieces) name → suc (f name) ≤ pieces_depth f pieces
  pieces_depth-use pieces name u =
      grind (arith, nat_tests, at_most (shape_names pieces) name u, no_item name)

  pub pieces_weight-use : (pieces : Shape) (name : List ℕ)
      → Contains (shape_names pieces) name → suc (f name) ≤ pieces_weight f pieces
  pieces_weight-use [] name u = absurd (no_item name u)
  pieces_weight-use (items ∷ pieces) name u = omega (arith, (at_most (shape_names (items ∷ pieces)) name u).0)

-- A node is one level deeper than a name that it uses, and heavier by at least 1.

pub deeper : (steps : ℕ) (shapes : Shapes) (a b : Title)
    → Uses shapes a b → steps ≤ depth steps shapes b → suc steps ≤ depth (suc steps) shapes a
deeper steps shapes a b u h =
    grind (arith, nat_tests, pieces_depth-use (λ other. depth steps shapes (Named other)) (shapes a))

pub heavier : (steps : ℕ) (shapes : Shapes) (a b : Title)
    → Uses shapes a b → steps ≤ weight steps shapes b → suc steps ≤ weight (suc steps) shapes a
heavier steps shapes a b u h =
    let more = pieces_weight-use (λ other. weight steps shapes (Named other)) (shapes a) in
    grind (arith, nat_tests, more, weight-suc steps shapes a)
