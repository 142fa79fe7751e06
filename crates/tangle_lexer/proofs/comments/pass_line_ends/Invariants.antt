use Rattle.std.proofs.Common.{◌≡◌, ◌++◌, map, length}
use Rattle.tangle_text.specs.Regions.{region_end}
use Rattle.tangle_lexer.specs.LinesOfC.{inner_end_in, after_line_ends}
use Rattle.tangle_lexer.specs.Lexemes.{is_in_directive}
use Rattle.tangle_lexer.specs.Comments.{line_ends}
use Rattle.tangle_lexer.proofs.comments.pass_line_ends.Given as goal

abbrev pub invariant-loop-front : goal.invariant-loop-front
invariant-loop-front l = record {
  end : region_end l.region l.reader ≡ region_end l.region l.fn.reader;
  tokens : l.tokens.items ++ map (inner_end_in (is_in_directive l.state)) (line_ends l.region l.reader)
      ≡ l.fn.tokens.items ++ map (inner_end_in (is_in_directive l.state)) (line_ends l.region l.fn.reader);
  line : after_line_ends (is_in_directive l.state) (line_ends l.region l.reader) l.at
      ≡ after_line_ends (is_in_directive l.state) (line_ends l.region l.fn.reader) l.state.line;
}

abbrev pub decreases-loop-front : goal.decreases-loop-front
decreases-loop-front l = length l.reader
