-- Directed graphs: for each node a row of the nodes that it uses.
use Rattle.std.specs.Prelude.{◌<◌, ℕ, List, [], length, slice_index_or, Contains, All}

abbrev pub Graph : Type 0
Graph = List (List ℕ)

-- row `n`, or an empty one where there is none
abbrev pub row_at : {X : Type 0} → List (List X) → ℕ → List X
row_at rows n = slice_index_or rows n []

-- `n` uses `m`
abbrev pub HasUse : Graph → ℕ → ℕ → Type 0
HasUse graph n m = Contains (row_at graph n) m

-- each node that is used is a node of the graph
abbrev pub InRange : Graph → Type 0
InRange graph = All (All (λ m. m < length graph)) graph
