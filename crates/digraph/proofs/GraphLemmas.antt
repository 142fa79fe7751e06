-- Nodes that use one another are nodes of the graph.
use Rattle.std.proofs.Common.{rules}
use Rattle.std.proofs.Common.{◌<◌, ℕ, [], length}
use Rattle.std.proofs.lemmas.List.{get_or_past}
use Rattle.std.proofs.lemmas.List.Elements.{All-contains}
use Rattle.digraph.specs.Graph.{Graph, HasUse, InRange, row_at}

pub node_in : (graph : Graph) (n m : ℕ) → HasUse graph n m → n < length graph
node_in graph n m u = search (rules, get_or_past)

pub use_in : (graph : Graph) → InRange graph → (n m : ℕ) → HasUse graph n m → m < length graph
use_in graph range n m u =
    All-contains (λ k. k < length graph) (row_at graph n) m (range n [] (node_in graph n m u)) u
