use Rattle.std.proofs.Common.{◌≡◌, take}
use Rattle.tangle_bodies.specs.Nodes.{titles_at}
use Rattle.tangle_bodies.proofs.shapes.have_titles_of.Given as goal

abbrev pub invariant-loop-i : goal.invariant-loop-i
invariant-loop-i l = take l.i (titles_at l.names l.nodes) ≡ take l.i (titles_at l.other_names l.others)
