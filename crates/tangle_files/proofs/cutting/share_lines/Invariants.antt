use Rattle.tangle_files.proofs.CuttingLemmas.{AreEnds, IsCutUpTo}
use Rattle.tangle_files.proofs.cutting.share_lines.Given as goal

abbrev pub invariant-loop-end : goal.invariant-loop-end
invariant-loop-end l = record {
  cut : IsCutUpTo l.bytes l.start l.lines.items;
  ends : AreEnds l.bytes l.start l.end-iterator;
}
