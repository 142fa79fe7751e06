use Rattle.std.proofs.Common.{◌≡◌, ◌≤◌, true, List, length}
use Rattle.tangle_lines.specs.Reading.{SourceLine}
use Rattle.tangle_text.specs.Text.{IsRestOf}
use Rattle.tangle_lexer.specs.Lexemes.{with_line}
use Rattle.tangle_lexer.specs.Reads.{ReadsOn, AddsSimple}
use Rattle.tangle_lexer.specs.Simple.{is_c_text}
use Rattle.tangle_lexer.proofs.simple.read_simple.Given as goal

abbrev pub invariant-loop-simple : goal.invariant-loop-simple
invariant-loop-simple l = record {
  read : (lines : List SourceLine) → IsRestOf lines l.fn.reader
      → ReadsOn lines l.fn.tokens.items l.tokens.items
      l.fn.from (with_line l.line l.fn.from) l.fn.reader l.here;
  adds : AddsSimple l.fn.from.mode l.fn.tokens.items l.tokens.items;
  shorter : length l.here ≤ length l.fn.reader;
  mode : is_c_text l.fn.from.mode ≡ true;
}

abbrev pub decreases-loop-simple : goal.decreases-loop-simple
decreases-loop-simple l = length l.here
