use Rattle.std.proofs.Common.{◌≡◌, length}
use Rattle.tangle_scan.specs.Passes.{last_of}
use Rattle.tangle_scan.proofs.runs.last_token.Given as goal

abbrev pub invariant-loop-part : goal.invariant-loop-part
invariant-loop-part l = last_of l.last l.parts ≡ last_of l.initial.last l.initial.parts

abbrev pub decreases-loop-part : goal.decreases-loop-part
decreases-loop-part l = length l.parts
