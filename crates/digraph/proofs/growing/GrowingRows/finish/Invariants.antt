use Rattle.std.proofs.Common.{◌≡◌, take}
use Rattle.digraph.specs.Links.{rows_of_links}
use Rattle.digraph.proofs.growing.GrowingRows.finish.Given as goal

abbrev pub invariant-loop-last : goal.invariant-loop-last
invariant-loop-last g l =
    l.rows ≡ rows_of_links l.self-inside.links.items (take l.last-index l.self-inside.lasts.items)
