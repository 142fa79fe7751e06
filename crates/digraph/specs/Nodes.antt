-- The nodes of a graph of names, by number: the program is 0, and the full name with the number
-- `id` is `id + 1`.
use Rattle.std.specs.Prelude.{ℕ, zero, suc, Option, Some, None}

abbrev pub Node : Type 0
Node = ℕ

abbrev pub program : Node
program = 0

-- the number of the node's name, if the node is one
abbrev pub name_of_node : Node → Option ℕ
name_of_node zero = None
name_of_node (suc id) = Some id
