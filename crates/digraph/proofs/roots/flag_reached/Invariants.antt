use Rattle.digraph.specs.Roots.{FromRoots}
use Rattle.digraph.proofs.roots.flag_reached.Given as goal

abbrev pub invariant-loop-n : goal.invariant-loop-n
invariant-loop-n l = FromRoots l.uses l.roots l.flags
