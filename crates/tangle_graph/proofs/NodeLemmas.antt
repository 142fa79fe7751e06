-- Nodes and their titles.
use Rattle.std.proofs.Common.{rules}
use Rattle.std.proofs.Common.{◌≡◌, ◌≤◌, ℕ, suc, List, length}
use Rattle.std.proofs.Common.{Some, None}
use Rattle.std.specs.List.{position}
use Rattle.std.specs.List.{IsDistinct}
use Rattle.std.specs.Str.{bytes_eq}
use Rattle.std.proofs.lemmas.List.Sums.{fails_before_first}
use Rattle.std.proofs.lemmas.Slice.Eq.{bytes_eq-Decides}
use Rattle.std.proofs.lemmas.List.Quantifiers.{position-Some}
use Rattle.digraph.specs.Nodes.{name_of_node}
use Rattle.tangle_expansion.proofs.NumberLemmas.{once_named}
use Rattle.tangle_bodies.specs.Nodes.{title_at}
use Rattle.tangle_bodies.specs.Shapes.{Named}

-- each title has one node
pub once_titled : (names : List (List ℕ)) (n m : ℕ)
    → IsDistinct bytes_eq names → n ≤ length names → m ≤ length names → title_at names n ≡ title_at names m → n ≡ m
once_titled names (suc n) (suc m) distinct hn hm e = search (rules, once_named)
once_titled names n m distinct hn hm e = search rules

pub name_only : (n id : ℕ) → name_of_node n ≡ Some id → n ≡ suc id
name_only n id e = search rules

-- no node has the title of a name that is not among the names
pub title_absent : (names : List (List ℕ)) (text : List ℕ) (n : ℕ)
    → position (bytes_eq text) names ≡ None → n ≤ length names → title_at names n ≡ Named text → ⊥
title_absent names text n none h e = search (rules, fails_before_first)

pub ruleset nodes_before = (name_only, title_absent, position-Some, bytes_eq-Decides)
