use Rattle.std.proofs.lemmas.Bool.Decides.{nat_tests}
use Rattle.std.proofs.Common.{arith, append_assoc, sym, ◌∙◌}
use Rattle.std.proofs.lemmas.List.Elements.{All-push}
use Rattle.tangle_lexer.specs.Runs.{IsRunIn}
use Rattle.tangle_scan.specs.Rules.{texts_of}
use Rattle.tangle_scan.specs.Passes.{plain_state}
use Rattle.tangle_scan.proofs.lemmas.MacroItemLemmas.{ahead-backslash}
use Rattle.tangle_scan.proofs.lemmas.MacroRunLemmas.{ahead-token}
use Rattle.tangle_scan.proofs.lemmas.SpacedTokens.{gap-runs, token-pushed}
use Rattle.tangle_scan.proofs.macro_items.add_token.Goals as goal

pub returns-then-is_dropped-clause-items : goal.returns-then-is_dropped-clause-items
returns-then-is_dropped-clause-items c = grind (arith, nat_tests, ahead-backslash)

pub returns-clause-items : goal.returns-clause-items
returns-clause-items c = λ rest gap.
    let texts = texts_of c.args.source.now.lines in
    let ahead = ahead-token texts (plain_state texts c.args.at) c.args.token c.args.gap rest c.requires.solid c.requires.run
    c.requires.alone gap (sym c.is_dropped.ensures ∙ c.if-is_dropped.false) in
    rw (c.in_ok-push.ensures.items, c.in_ok-push_gap.ensures, token-pushed texts, c.has_blank.ensures, c.is_in_name.ensures, ahead)
    (grind (arith, append_assoc))

pub returns-clause-runs : goal.returns-clause-runs
returns-clause-runs c = λ all.
    let texts = texts_of c.args.source.now.lines in
    rw (c.in_ok-push.ensures.items, c.in_ok-push_gap.ensures)
    (All-push (IsRunIn texts) _ c.args.token (gap-runs texts c.args.spaced.now.items _ _ all) c.requires.run)
