use Rattle.std.proofs.Common.{◌≡◌, ◌++◌, length, None}
use Rattle.std.specs.List.{All}
use Rattle.tangle_lexer.specs.Runs.{IsRunIn}
use Rattle.tangle_scan.specs.Rules.{texts_of}
use Rattle.tangle_scan.specs.Web.{token_faults, word_at_end}
use Rattle.tangle_scan.proofs.faults.add_faults.Given as goal

abbrev pub invariant-loop-left : goal.invariant-loop-left
invariant-loop-left l = record {
  faults : l.faults.items
      ++ token_faults l.source.files l.source.lines (word_at_end (texts_of l.source.lines) l.before) l.left
      ≡ l.fn.faults.items ++ token_faults l.source.files l.source.lines None l.tokens;
  run : IsRunIn (texts_of l.source.lines) l.before;
  runs : All (IsRunIn (texts_of l.source.lines)) l.left;
}

abbrev pub decreases-loop-left : goal.decreases-loop-left
decreases-loop-left l = length l.left
