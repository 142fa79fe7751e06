-- Which nodes contain themselves, and which reach a name that does. Nothing uses the program, so
-- the nodes in between are names, and those of the table are enough.
use Rattle.std.specs.Prelude.{Bool, false, List, ℕ, map}
use Rattle.std.specs.List.{list_any}
use Rattle.std.specs.Str.{bytes_eq}
use Rattle.digraph.specs.Reach.{reaches_by, reaches_cycle_by}
use Rattle.tangle_bodies.specs.Shapes.{Title, Program, Named, Shapes, shape_names}

-- the first node has a use of the second
abbrev pub has_use : Shapes → Title → Title → Bool
has_use shapes user Program = false
has_use shapes user (Named name) = list_any (bytes_eq name) (shape_names (shapes user))

-- the node reaches itself in one step or more, along these names
unfoldable pub contains_itself : Shapes → List (List ℕ) → Title → Bool
contains_itself shapes names title = reaches_by (has_use shapes) (map Named names) title title

-- the node reaches a name that contains itself, along these names
unfoldable pub reaches_cycle : Shapes → List (List ℕ) → Title → Bool
reaches_cycle shapes names title = reaches_cycle_by (has_use shapes) (map Named names) title
