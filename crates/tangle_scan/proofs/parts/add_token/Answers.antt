use Rattle.std.proofs.Common.{rules}
use Rattle.std.proofs.Common.{subst}
use Rattle.tangle_lexer.specs.Runs.{IsRunIn}
use Rattle.tangle_scan.specs.Rules.{texts_of}
use Rattle.tangle_scan.proofs.lemmas.MadeLemmas.{made-end, made-item, made-join, made-run, made-same, made-white}
use Rattle.tangle_scan.proofs.lemmas.MadeLemmas.{made-joined-end}
use Rattle.tangle_scan.proofs.lemmas.RuleLemmas.{solid}
use Rattle.tangle_scan.proofs.lemmas.RunItems.{unfolded-one}
use Rattle.tangle_scan.proofs.parts.add_token.Goals as goal

pub returns-in-White-clause-made : goal.returns-in-White-clause-made
returns-in-White-clause-made c = search (rules, made-white)

pub returns-in-Joined-clause-made : goal.returns-in-Joined-clause-made
returns-in-Joined-clause-made c = search (rules, made-joined-end)

pub returns-in_ok-add_line_end-in-LineEnd-clause-made : goal.returns-in_ok-add_line_end-in-LineEnd-clause-made
returns-in_ok-add_line_end-in-LineEnd-clause-made c = λ whole es h.
    let made = c.in_ok-add_line_end-in-LineEnd.ensures in
    rw (made.text, made.at)
    (made-end c.args.source.now.lines whole c.args.text.now c.args.at.now es c.in-LineEnd.line
    c.add_line_end.new.at.counted c.in_default-last.not-Joined made.counted (rw c.in-LineEnd.is at h))

pub returns-in_ok-add_run-in-Run-clause-made : goal.returns-in_ok-add_run-in-Run-clause-made
returns-in_ok-add_run-in-Run-clause-made c = λ whole es h.
    let lines = c.args.source.now.lines in
    let made = c.in_ok-add_run-in-Run.ensures in
    rw (made.text, made.at)
    (made-run lines whole c.args.text.now c.args.at.now es c.in-Run.span
    (subst (IsRunIn (texts_of lines)) c.in-Run.is c.requires.run) (rw c.in-Run.is at h))

pub returns-in-Join-clause-made : goal.returns-in-Join-clause-made
returns-in-Join-clause-made c = search (rules, made-join)

pub returns-in-Fault-clause-made : goal.returns-in-Fault-clause-made
returns-in-Fault-clause-made c = search (rules, made-same)

pub returns-in_ok-add_item-in_default-clause-made : goal.returns-in_ok-add_item-in_default-clause-made
returns-in_ok-add_item-in_default-clause-made c = λ whole es h.
    let other = c.in_default in
    let e = c.args.token.now in
    let alone = unfolded-one (texts_of c.args.source.now.lines) e other.not-Run in
    let made = c.in_ok-add_item-in_default.ensures in
    rw (made.text, made.at)
    (made-item c.args.source.now.lines whole c.args.text.now c.args.at.now es e c.add_item.new.at.counted
    (solid e other.not-White other.not-LineEnd other.not-InnerLineEnd other.not-Join other.not-Fault) alone.1
    made.counted (rw alone.0 at h))
