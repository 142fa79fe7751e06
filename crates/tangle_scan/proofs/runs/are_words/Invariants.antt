use Rattle.std.proofs.Common.{◌≡◌, length}
use Rattle.tangle_scan.specs.Passes.{are_words}
use Rattle.tangle_scan.proofs.runs.are_words.Given as goal

abbrev pub invariant-loop-part : goal.invariant-loop-part
invariant-loop-part l = are_words l.parts ≡ are_words l.initial.parts

abbrev pub decreases-loop-part : goal.decreases-loop-part
decreases-loop-part l = length l.parts
