-- What is shared for the uses of a node, one after another.
use Rattle.std.proofs.Common.{◌≡◌, ◌<◌, ◌≤◌, ◌+◌, ℕ, min, List, [], ◌∷◌, map, length, drop, get_or}
use Rattle.std.proofs.Common.{refl, ap, arith}
use Rattle.std.specs.Prelude.{Option}
use Rattle.std.proofs.lemmas.List.{drop_all}
use Rattle.std.proofs.Math.Decide.{dec_lt}
use Rattle.digraph.specs.Nodes.{Node}
use Rattle.tangle_bodies.specs.Nodes.{title_at, titles_at}
use Rattle.tangle_bodies.specs.Shapes.{Title}
use Rattle.tangle_bodies.proofs.EachLemmas.{drop_at}
use Rattle.tangle_expansion.specs.Expanded.{Expanded, Shared, End, Next, UsedTitles, shared_of, shared_symbols, symbols_if_any}

module _ (uses : UsedTitles) where
  pub shared_at : (titles : List Title) (used : List (Option Expanded)) (i : ℕ) (title : Title) (o : Option Expanded)
      → i < length titles → i < length used → title ≡ get_or titles i title → o ≡ get_or used i o
      → shared_symbols uses (shared_of (drop i used)) (drop i titles)
      ≡ symbols_if_any uses title o ∷ shared_symbols uses (shared_of (drop (i + 1) used)) (drop (i + 1) titles)
  shared_at titles used i title o low less titled at = rw (drop_at titles i title low titled, drop_at used i o less at) refl

  no_titles : (shared : Shared) → shared_symbols uses shared [] ≡ []
  no_titles End = refl
  no_titles (Next items used rest) = refl

  pub shared_end : (titles : List Title) (used : List (Option Expanded)) (i : ℕ)
      → min (length titles) (length used) ≤ i → shared_symbols uses (shared_of (drop i used)) (drop i titles) ≡ []
  shared_end titles used i past = elim (dec_lt i (length used)) [
    | yes low ↦ rw (drop_all i titles (omega arith)) (no_titles (shared_of (drop i used)))
    | no high ↦ rw (drop_all i used (omega arith)) refl
  ]

  -- what is shared for the uses of these nodes
  pub all_shared : (names : List (List ℕ)) (shared : Node → Option Expanded) (nodes : List Node)
      → shared_symbols uses (shared_of (map shared nodes)) (titles_at names nodes)
      ≡ map (λ node. symbols_if_any uses (title_at names node) (shared node)) nodes
  all_shared names shared [] = refl
  all_shared names shared (node ∷ nodes) =
      ap (λ l. symbols_if_any uses (title_at names node) (shared node) ∷ l) (all_shared names shared nodes)
