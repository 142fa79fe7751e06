-- A node that is expandable after an edit, and not affected by it, was expandable before, with the same symbols.
use Rattle.std.proofs.Common.{rules}
use Rattle.std.proofs.Common.{◌≡◌, ℕ}
use mathlib.Core.HLevel.{Discrete}
use mathlib.Core.List.{List-discrete}
use native.Mathlib.Decide.{ℕ_discrete}
use Rattle.digraph.specs.Reach.{here, ReachesCycle}
use Rattle.tangle_bodies.specs.Shapes.{Title, kind_discrete, item_discrete, Shape, Shapes, Uses}
use Rattle.tangle_bodies.specs.Flat.{flat}
use Rattle.tangle_expansion.specs.Affected.{IsExpandable, IsAffected}
use Rattle.tangle_expansion.specs.Expanded.{Expanded, symbols_of, used_titles}
use Rattle.tangle_expansion.proofs.SameShapes.{SameReached, same_reached, same_symbols, cycle_deep_and_heavy}

-- equality of shapes can be decided

pub shape_discrete : Discrete Shape
shape_discrete = List-discrete (List-discrete (item_discrete kind_discrete (List-discrete ℕ_discrete)))

module _ (levels limit : ℕ) (old new : Shapes) (node : Title) (expandable : IsExpandable levels limit new node)
    (unaffected : (h : IsAffected levels limit old new node) → ⊥) where
  same : SameReached old new node
  same other r = elim (shape_discrete (new other) (old other)) [
    | yes e ↦ e
    | no f ↦ absurd (unaffected (record { expandable = expandable; cause = other; reaches = r; changed = f }))
  ]

  pub stays : IsExpandable levels limit old node × (flat levels new node ≡ flat levels old node)
  stays =
      let shape : new node ≡ old node = same node here in
      let reached = same_reached levels old new node same in
      search rules

  pub stays_given : (e : Expanded) → symbols_of (used_titles new) node e ≡ symbols_of (used_titles old) node e
  stays_given e = same_symbols old new node same e

-- an expandable node reaches no name that contains itself
pub no_cycle : (levels limit : ℕ) (shapes : Shapes) (node : Title)
    → IsExpandable levels limit shapes node → ReachesCycle (Uses shapes) node → ⊥
no_cycle levels limit shapes node expandable c = search (rules, cycle_deep_and_heavy)
