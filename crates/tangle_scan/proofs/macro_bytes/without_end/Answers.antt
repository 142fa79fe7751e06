use Rattle.std.proofs.Common.{◌∙◌, sym, Some}
use Rattle.std.proofs.lemmas.List.Elements.{All-pop}
use Rattle.tangle_lexer.specs.Runs.{IsRunIn}
use Rattle.tangle_scan.specs.Rules.{texts_of}
use Rattle.tangle_scan.proofs.lemmas.MacroEndLemmas.{dropped-at, written-at}
use Rattle.tangle_scan.proofs.macro_bytes.without_end.Goals as goal

pub returns-then-not-is_dropped_at_end : goal.returns-then-not-is_dropped_at_end
returns-then-not-is_dropped_at_end c =
    let texts = texts_of c.args.source.now.lines in
    let left = c.loop-last.left.now in
    let split = c.in-Some.ensures.cases.0 in
    let last = All-pop (IsRunIn texts) left c.in-Some.front.now (Some c.in-Some.last.now) split c.loop-last.invariant.runs in
    sym (written-at texts left c.in-Some.front.now c.in-Some.last.now split last.1
    (sym c.is_dropped_at_end.ensures ∙ c.if-not-is_dropped_at_end.true)) ∙ c.loop-last.invariant.items

pub loop-last-preserved : goal.loop-last-preserved
loop-last-preserved c =
    let texts = texts_of c.args.source.now.lines in
    let left = c.loop-last.left.now in
    let split = c.in-Some.ensures.cases.0 in
    record {
      items = dropped-at texts left c.in-Some.front.now c.in-Some.last.now split
          (sym c.is_dropped_at_end.ensures ∙ c.if-not-is_dropped_at_end.false) ∙ c.loop-last.invariant.items;
      runs = (All-pop (IsRunIn texts) left c.in-Some.front.now (Some c.in-Some.last.now) split c.loop-last.invariant.runs).0;
    }
