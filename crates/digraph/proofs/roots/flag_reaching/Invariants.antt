use Rattle.digraph.specs.Roots.{ToRoots}
use Rattle.digraph.proofs.roots.flag_reaching.Given as goal

abbrev pub invariant-loop-n : goal.invariant-loop-n
invariant-loop-n l = ToRoots l.uses l.roots l.flags
