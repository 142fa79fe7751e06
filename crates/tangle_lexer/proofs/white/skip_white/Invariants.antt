use Rattle.std.proofs.Common.{◌≡◌, length}
use Rattle.tangle_lexer.specs.White.{white_end}
use Rattle.tangle_lexer.proofs.white.skip_white.Given as goal

abbrev pub invariant-loop-front : goal.invariant-loop-front
invariant-loop-front l = record { end : white_end l.reader ≡ white_end l.fn.reader }

abbrev pub decreases-loop-front : goal.decreases-loop-front
decreases-loop-front l = length l.reader
