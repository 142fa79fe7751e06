use Rattle.std.proofs.lemmas.Bool.Decides.{nat_tests}
use Rattle.std.proofs.Common.{arith}
use Rattle.tangle_text.specs.Text.{texts_of}
use Rattle.tangle_lexer.specs.Steps.{lexeme}
use Rattle.tangle_lexer.specs.Heads.{is_head}
use Rattle.tangle_lexer.specs.Runs.{is_run}
use Rattle.tangle_lexer.proofs.lemmas.PlainTokens.{HasNone}
use Rattle.tangle_lexer.proofs.lemmas.StepLemmas.{step-occurrences, step-count, step-shorter}
use Rattle.tangle_lexer.proofs.lemmas.BlockLemmas.{taken, taken-tokens, not-taken, no-head, no-run}
use Rattle.tangle_lexer.proofs.lemmas.BlockLemmas.{plain-tokens, plain-runs, plain-none, plain-alone, read-ours}
use Rattle.tangle_lexer.proofs.lexer.next_block.Goals as goal

pub returns-in-Some-pop_head : goal.returns-in-Some-pop_head
returns-in-Some-pop_head c =
    let lines = c.args.source.now.lines in
    let before = c.loop-front.invariant in
    let s = c.loop-front.state in
    let inside = c.in-Some.ensures.front.inside in
    let read = c.in_ok-state.ensures.read in
    let adds = c.in_ok-state.ensures.occurrences in
    let popped = c.in-Some-pop_head.ensures in
    let found = taken s read _ c.in-Some-pop_head.head before.no_head popped in
    grind (
      arith,
      nat_tests,
      taken-tokens s read (texts_of lines) _ _ inside popped found,
      read-ours s read lines before.ours,
      step-shorter s read inside,
      step-occurrences s read lines _ _ inside adds,
      step-count s read lines _ _ adds before.count,
    )

pub loop-front-preserved : goal.loop-front-preserved
loop-front-preserved c =
    let lines = c.args.source.now.lines in
    let texts = texts_of lines in
    let before = c.loop-front.invariant in
    let s = c.loop-front.state in
    let inside = c.in-Some.ensures.front.inside in
    let read = c.in_ok-state.ensures.read in
    let adds = c.in_ok-state.ensures.occurrences in
    let kept = c.in_default-pop_head.ensures in
    let simple = c.in_ok-state-2.ensures in
    let plain = not-taken s read kept.1 in
    let text = c.loop-front.reader in
    let no_run : HasNone is_run (lexeme s text).tokens = no-run (lexeme s text).tokens plain.0 in
    grind (
      arith,
      nat_tests,
      simple.read lines (read-ours s read lines before.ours),
      plain-tokens s read texts inside no_run,
      plain-runs s read texts no_run before.runs,
      plain-alone s read no_run,
      plain-none s read is_head (no-head (lexeme s text).tokens plain.0) before.no_head,
      step-shorter s read inside,
      step-occurrences s read lines _ _ inside adds,
      step-count s read lines _ _ adds before.count,
    )
