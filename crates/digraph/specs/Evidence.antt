-- When proposed ranks and roots, with the flags that were found from them, are evidence for a
-- graph.
use Rattle.std.specs.Prelude.{◌≡◌, true, length}
use Rattle.digraph.specs.Graph.{Graph}
use Rattle.digraph.specs.Roots.{FromRoots, ToRoots, NeverFalls}
use Rattle.digraph.specs.declared.evidence.Evidence.{Evidence}

pub record IsEvidence (graph : Graph) (evidence : Evidence) : Type 0 where
  pub ranks : length evidence.ranks.items ≡ length graph
  pub never_falls : evidence.never_falls ≡ true → NeverFalls graph evidence.ranks.items
  pub roots : length evidence.roots.items ≡ length graph
  pub from_root : FromRoots graph evidence.roots.items evidence.from_root.items
  pub to_root : ToRoots graph evidence.roots.items evidence.to_root.items
