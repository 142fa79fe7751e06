use Rattle.std.proofs.lemmas.Bool.Decides.{nat_tests}
use Rattle.tangle_lexer.proofs.lemmas.PlainTokens.{none-append}
use Rattle.tangle_lexer.proofs.lemmas.BlockLemmas.{alone-append}
use Rattle.tangle_text.specs.Text.{Cell}
use Rattle.std.proofs.Common.{rules}
use Rattle.std.proofs.Common.{◌≡◌, true, length, ap, sym, ◌∙◌, arith, length-drop}
use Rattle.tangle_text.specs.Text.{byte_at}
use Rattle.tangle_text.proofs.TakenLemmas.{run_at-is, run_at-empty}
use Rattle.tangle_lexer.specs.Lexemes.{with_line}
use Rattle.tangle_lexer.specs.Simple.{begins_run}
use Rattle.tangle_lexer.proofs.lemmas.BlockLemmas.{no-run, plain-reads-on}
use Rattle.tangle_lexer.proofs.lemmas.RunLemmas.{run-read, run-reads-on}
use Rattle.tangle_lexer.proofs.lemmas.SimpleLemmas.{simple-adds, simple-again, simple-read, simple-occurrences_from, simple-special}
use Rattle.tangle_lexer.proofs.simple.run_or_simple.Goals as goal
use Rattle.tangle_lexer.proofs.simple.run_or_simple.Goals.{then-begins_run+in_default, else-begins_run}

pub returns-in-Some-clause-read : goal.returns-in-Some-clause-read
returns-in-Some-clause-read c = λ lines ours.
    let text = c.args.reader.now in
    let state = with_line c.args.line.now c.args.from in
    let tokens = c.args.tokens.now.items in
    let begins : begins_run tokens state.mode state.line.include c.args.simple (byte_at 0 text) ≡ true = search rules in
    let run = run_at-is text c.in-Some.run' (sym c.take_run.ensures.span ∙ c.in-Some.is) in
    rw (c.set.ensures, c.elsewhere.ensures, c.with_line-state.ensures)
    (run-reads-on lines _ _ state text _ c.in-Some.run'
    c.in_ok-push.ensures.items run.span c.take_run.ensures.ahead ours
    (run-read lines tokens state text c.args.simple c.requires.simple c.requires.mode begins run.some ours))

pub returns-in-Some-clause-adds : goal.returns-in-Some-clause-adds
returns-in-Some-clause-adds c =
    search (rules, nat_tests, none-append, alone-append)

-- where no run was read, the reader is where it was
same-place : (c : goal.After-set-2) → c.if-begins_run.reader ≡ c.args.reader.now
same-place c =
    let text = c.args.reader.now in
    elim c.if-begins_run.branch [
      | then-begins_run+in_default w ↦
          search (rules, run_at-empty)
      | else-begins_run w ↦ w.reader-is
    ]

pub returns-clause-read : goal.returns-clause-read
returns-clause-read c = λ lines ours.
    let text = c.args.reader.now in
    let state = with_line c.args.line.now c.args.from in
    let here = rw (same-place c) at c.in_ok-after.ensures in
    let again = simple-again _ _ c.args.line.now c.args.from _ _ text _ c.args.simple c.with_line-state.ensures here in
    let read = simple-read state text c.args.simple c.requires.simple c.requires.mode _ _ _ _ again in
    rw c.set-2.ensures (search (rules, plain-reads-on, no-run, simple-special, simple-occurrences_from))

pub returns-clause-adds : goal.returns-clause-adds
returns-clause-adds c =
    simple-adds c.args.from.mode _ _ c.with_line-state.result c.if-begins_run.reader c.args.simple c.in_ok-after.ensures.tokens

pub returns-clause-shorter : goal.returns-clause-shorter
returns-clause-shorter c =
    let ahead = ap length c.in_ok-after.ensures.ahead in
    let same = ap length (same-place c) in
    omega (arith, c.requires.simple.inside, length-drop {A = Cell})
