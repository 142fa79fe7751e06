-- The limits of weight and depth, and the expansion of a node within them.
use Rattle.std.specs.Prelude.{ℕ, List, min}
use Rattle.tangle_bodies.specs.Shapes.{Title, Shapes}
use Rattle.tangle_bodies.specs.Flat.{Symbol, flat, weight, depth}
use Rattle.tangle_expansion.specs.Affected.{IsExpandable}

-- one more than the greatest depth of an expandable node
unfoldable pub levels : ℕ
levels = 1001

-- the greatest weight of an expandable node
unfoldable pub heaviest : ℕ
heaviest = 16777216

-- one more than the greatest weight; each level of uses adds at least 1 to the weight, so with this
-- fuel a cycle reaches the cap
unfoldable pub weight_cap : ℕ
weight_cap = 16777217

abbrev pub flat_of : Shapes → Title → List Symbol
flat_of shapes title = flat levels shapes title

abbrev pub weight_of : Shapes → Title → ℕ
weight_of shapes title = min weight_cap (weight weight_cap shapes title)

abbrev pub depth_of : Shapes → Title → ℕ
depth_of shapes title = depth levels shapes title

abbrev pub IsExpandableNode : Shapes → Title → Type 0
IsExpandableNode shapes title = IsExpandable levels heaviest shapes title
