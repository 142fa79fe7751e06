use Rattle.std.proofs.Common.{append-nil, refl}
use Rattle.std.proofs.Common.{rules}
use Rattle.std.proofs.Common.{ap, arith, sym, ◌∙◌, subst}
use Rattle.std.proofs.lemmas.List.{drop_all, drop_more}
use Rattle.std.proofs.lemmas.List.Folds.{list_any_more}
use Rattle.tangle_lexer.specs.declared.tokens.Token.TheVariants as token
use Rattle.tangle_lexer.specs.Runs.{unfolded}
use Rattle.tangle_scan.specs.RawStrings.{may_have_fault}
use Rattle.tangle_scan.specs.Rules.{texts_of, part_items}
use Rattle.tangle_scan.specs.Texts.{IsTextOf}
use Rattle.tangle_scan.specs.Web.{is_all_macros}
use Rattle.tangle_scan.proofs.lemmas.MadeLemmas.{made-open, made-closed}
use Rattle.tangle_scan.proofs.parts.fill_part.Goals as goal

pub loop-token-preserved : goal.loop-token-preserved
loop-token-preserved c =
    let lines = c.args.source.now.lines in
    let tokens = c.args.tokens.now in
    let index = c.loop-token.token-index in
    let added = c.in_ok-add_token.ensures in
    let was = c.loop-token.invariant in
    record {
      made = search (rules, drop_more);
      limit = omega (arith, added.limit, was.limit);
      all_macros = grind (arith, list_any_more is_all_macros tokens index token.Section);
      fault = grind (arith, list_any_more (may_have_fault (texts_of lines)) tokens index token.Section);
    }

pub returns-in_ok-add_byte-clause-text : goal.returns-in_ok-add_byte-clause-text
returns-in_ok-add_byte-clause-text c =
    let lines = c.args.source.now.lines in
    subst (IsTextOf (texts_of lines) (part_items lines c.args.line (unfolded (texts_of lines) c.args.tokens.now)))
    (sym (c.in_ok-add_byte.ensures ∙ rw (append-nil c.loop-token.text.uses, append-nil c.loop-token.text.marks) refl))
    (made-open lines _ c.loop-token.text c.loop-token.at _
    (ap (unfolded (texts_of lines)) (drop_all c.loop-token.token-index c.args.tokens.now (omega arith)))
    (sym c.is_open.ensures ∙ c.if-is_open.true) c.loop-token.invariant.made)

pub returns-else-is_open-clause-text : goal.returns-else-is_open-clause-text
returns-else-is_open-clause-text c =
    let lines = c.args.source.now.lines in
    made-closed lines _ c.loop-token.text c.loop-token.at _
    (ap (unfolded (texts_of lines)) (drop_all c.loop-token.token-index c.args.tokens.now (omega arith)))
    (sym c.is_open.ensures ∙ c.if-is_open.false) c.loop-token.invariant.made
