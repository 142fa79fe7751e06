-- The list of the nodes that use a node.
use Rattle.std.specs.Prelude.{ℕ, Bool, List, ◌==◌, filter}
use Rattle.std.specs.List.{list_any, range_with_len}
use Rattle.digraph.specs.Graph.{Graph, row_at}

-- the numbers below `n` that pass the test
abbrev pub numbers_where : (ℕ → Bool) → ℕ → List ℕ
numbers_where p n = filter p (range_with_len 0 n)

-- the numbers of the rows that have `m`, of the first `n` rows
abbrev pub users_of : Graph → ℕ → ℕ → List ℕ
users_of rows n m = numbers_where (λ k. list_any (λ x. x == m) (row_at rows k)) n
