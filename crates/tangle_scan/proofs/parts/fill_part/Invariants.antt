use Rattle.std.proofs.Common.{◌≡◌, ◌≤◌, ◌+◌, ◌^◌, drop, take}
use Rattle.std.specs.List.{list_any}
use Rattle.tangle_lexer.specs.Runs.{unfolded}
use Rattle.tangle_scan.specs.Passes.{IsMade, highest}
use Rattle.tangle_scan.specs.RawStrings.{may_have_fault}
use Rattle.tangle_scan.specs.Rules.{texts_of, part_items}
use Rattle.tangle_scan.specs.Web.{is_all_macros}
use Rattle.tangle_scan.proofs.parts.fill_part.Given as goal

abbrev pub invariant-loop-token : goal.invariant-loop-token
invariant-loop-token l = record {
  made : IsMade l.source.lines (part_items l.source.lines l.line (unfolded (texts_of l.source.lines) l.tokens))
      l.text l.at (unfolded (texts_of l.source.lines) (drop l.token-index l.tokens));
  limit : highest l.at ≤ 2 ^ 32 + l.token-index;
  all_macros : l.notes.has_all_macros ≡ list_any is_all_macros (take l.token-index l.tokens);
  fault : l.notes.may_have_fault
      ≡ list_any (may_have_fault (texts_of l.source.lines)) (take l.token-index l.tokens);
}
