use Rattle.std.proofs.Common.{◌≡◌, length}
use Rattle.tangle_text.specs.Regions.{region_end}
use Rattle.tangle_lexer.specs.Comments.{line_ends}
use Rattle.tangle_lexer.proofs.white.passes_region.Given as goal

abbrev pub invariant-loop-front : goal.invariant-loop-front
invariant-loop-front l = record {
  end : region_end l.region l.reader ≡ region_end l.region l.fn.reader;
  ends : line_ends l.region l.reader ≡ line_ends l.region l.fn.reader;
}

abbrev pub decreases-loop-front : goal.decreases-loop-front
decreases-loop-front l = length l.reader
