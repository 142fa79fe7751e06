use Rattle.std.proofs.Common.{◌<◌, ◌+◌, [], ◌∷◌, ◌++◌, length, get_or, refl, ap, ◌∙◌, arith}
use Rattle.std.proofs.lemmas.List.{get_or_default}
use Rattle.std.proofs.lemmas.List.Elements.{All-push}
use Rattle.tangle_lines.specs.Reading.{IsShort, WaitingLine}
use Rattle.tangle_lines.proofs.PassingLemmas.{line_of, passes-next}
use Rattle.tangle_lines.proofs.waiting.OpenFile.take_plain.Goals as goal

pub loop-index-preserved : goal.loop-index-preserved
loop-index-preserved c =
    let i = c.loop-index.index in
    let file_lines = c.in-OfFile.file_lines.now in
    let inside : i < length file_lines = omega (arith, c.loop-index-test.true, c.plain_count-count.ensures.limit) in
    let w : WaitingLine = record {
      bytes = get_or file_lines i [];
      origin = record { file = c.self.inside.file; line = c.in-OfFile.read + i + 1 };
      changed = c.self.inside.is_changed;
      depth = c.self.inside.depth;
    } in
    let same = c.index-file_lines-index.is ∙ get_or_default file_lines i _ [] inside in
    let pushed = rw same at (c.in_ok-push.ensures.items ∙ ap (λ l. c.loop-index.lines.items ++ l ∷ []) c.new.ensures) in
    let here = rw c.awaited_line.ensures at (c.plain_count-count.ensures.plain i c.loop-index-test.true) in
    record {
      count = omega (arith, c.loop-index.invariant.count, c.in_ok-push.ensures.len);
      short = λ all. rw pushed (All-push IsShort c.loop-index.lines.items (line_of w) (c.loop-index.invariant.short all)
          (c.plain_count-count.ensures.short i c.loop-index-test.true));
      passed = λ rest.
          passes-next c.args.changes.now c.args.lines.now.items c.loop-index.lines.items c.push.new.self.items _
          c.self.inside.file c.self.inside.is_changed c.self.inside.depth c.in-OfFile.read i file_lines rest w refl
          inside pushed here (c.loop-index.invariant.passed rest);
    }
