use Rattle.std.proofs.Common.{◌≡◌, length}
use Rattle.std.specs.List.{All}
use Rattle.tangle_lexer.specs.Runs.{IsRunIn}
use Rattle.tangle_scan.specs.MacroBytes.{without_end}
use Rattle.tangle_scan.specs.Passes.{spaced_items}
use Rattle.tangle_scan.specs.Rules.{texts_of}
use Rattle.tangle_scan.proofs.macro_bytes.without_end.Given as goal

abbrev pub invariant-loop-last : goal.invariant-loop-last
invariant-loop-last l = record {
  items : without_end (texts_of l.source.lines) (spaced_items (texts_of l.source.lines) l.left)
      ≡ without_end (texts_of l.source.lines) (spaced_items (texts_of l.source.lines) l.fn.tokens);
  runs : All (IsRunIn (texts_of l.source.lines)) l.left;
}

abbrev pub decreases-loop-last : goal.decreases-loop-last
decreases-loop-last l = length l.left
