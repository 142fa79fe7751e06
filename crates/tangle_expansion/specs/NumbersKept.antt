-- The numbers, as they are in memory.
use Rattle.std.specs.Prelude.{◌≡◌, ◌+◌, ℕ, List, length, map, slice_get, All, Some}
use Rattle.std.specs.Global.{Global}
use Rattle.std.specs.declared.rc.Rc.{Rc}
use Rattle.digraph.specs.Nodes.{Node}
use Rattle.tangle_bodies.specs.NodeBodies.{body_uses, node_bodies}
use Rattle.tangle_bodies.specs.Nodes.{IsNodeOf, title_at, titles_at}
use Rattle.tangle_bodies.specs.Shapes.{Title}
use Rattle.tangle_bodies.specs.declared.nodes.NodeBody.{NodeBody}
use Rattle.tangle_expansion.specs.Numbers.{NumbersRead, row_number}
use Rattle.tangle_expansion.specs.PieceNumbers.{numbers_of_rows}
use Rattle.tangle_expansion.specs.SymbolLimits.{SymbolsAreShort}
use Rattle.tangle_expansion.specs.declared.numbers.Numbers.TheInside.{Inside}

-- the titles of what the bodies use, where the table has these names
abbrev pub used_by_bodies : List (List ℕ) → List (Rc NodeBody Global) → List (List Title)
used_by_bodies names bodies = map (λ body. titles_at names (body_uses body)) (node_bodies bodies)

abbrev pub numbers_read : Inside → NumbersRead
numbers_read n = record {
  mark_ends = map (λ ending. ending.items) n.mark_ends.items;
  names = n.names;
  rows = numbers_of_rows n.pieces n.rows.value;
  uses = used_by_bodies n.names n.bodies.value.items;
  macros = n.macros.items;
  marks = n.marks;
}

-- each node is found by its title, and has a body, which uses nodes of the table; and few bytes are
-- written for each symbol
pub record NumbersInvariant (n : Inside) : Type 0 where
  pub found : (node : Node) → IsNodeOf n.names node
      → row_number n.names (title_at n.names node) ≡ node
  pub bodies : length n.bodies.value.items ≡ length n.names + 1
  pub inside : (node : Node) (body : NodeBody)
      → slice_get (node_bodies n.bodies.value.items) node ≡ Some body
      → All (IsNodeOf n.names) (body_uses body)
  pub short : SymbolsAreShort (numbers_read n)
