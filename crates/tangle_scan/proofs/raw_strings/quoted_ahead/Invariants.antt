use Rattle.std.proofs.Common.{◌≡◌, length}
use Rattle.tangle_scan.specs.Web.{quoted_ahead}
use Rattle.tangle_scan.proofs.raw_strings.quoted_ahead.Given as goal

abbrev pub invariant-loop-left : goal.invariant-loop-left
invariant-loop-left l = quoted_ahead l.left ≡ quoted_ahead l.tokens

abbrev pub decreases-loop-left : goal.decreases-loop-left
decreases-loop-left l = length l.left
