-- Which nodes are expandable, and which of them an edit affects.
use Rattle.std.specs.Prelude.{◌≢◌, ℕ, ◌≤◌, ◌<◌, []}
use Rattle.digraph.specs.Reach.{Reaches}
use Rattle.tangle_bodies.specs.Shapes.{Title, Shapes, Uses}
use Rattle.tangle_bodies.specs.Flat.{weight, depth}

-- The node has a piece and is within both limits; `levels` is one more than the greatest allowed
-- depth. So it reaches no name that contains itself: the depth of a node that reaches one is at
-- least `levels`, by `expandable_nodes_reach_no_cycle`.
pub record IsExpandable (levels limit : ℕ) (shapes : Shapes) (title : Title) : Type 0 where
  pub has_piece : shapes title ≢ []
  pub shallow : depth levels shapes title < levels
  pub light : weight levels shapes title ≤ limit

-- the node is expandable in the new shapes, and reaches there a node whose shape differs from its
-- old shape
pub record IsAffected (levels limit : ℕ) (old new : Shapes) (title : Title) : Type 0 where
  pub expandable : IsExpandable levels limit new title
  pub cause : Title
  pub reaches : Reaches (Uses new) title cause
  pub changed : new cause ≢ old cause
