use Rattle.std.proofs.Common.{◌≡◌, ◌++◌, length}
use Rattle.std.specs.List.{All}
use Rattle.tangle_lexer.specs.Runs.{IsRunIn}
use Rattle.tangle_scan.specs.Rules.{texts_of}
use Rattle.tangle_scan.specs.Web.{macro_token_faults}
use Rattle.tangle_scan.proofs.faults.add_macro_faults.Given as goal

abbrev pub invariant-loop-left : goal.invariant-loop-left
invariant-loop-left l = record {
  faults : l.faults.items ++ macro_token_faults l.source.files l.source.lines l.left
      ≡ l.fn.faults.items ++ macro_token_faults l.source.files l.source.lines l.tokens;
  runs : All (IsRunIn (texts_of l.source.lines)) l.left;
}

abbrev pub decreases-loop-left : goal.decreases-loop-left
decreases-loop-left l = length l.left
