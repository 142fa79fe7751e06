use Rattle.std.proofs.Common.{add-one, arith, []}
use Rattle.std.proofs.lemmas.List.{take_rest}
use Rattle.std.proofs.lemmas.Bool.{false_from_ne_true, eqb-true}
use Rattle.tangle_script.proofs.CommandLemmas.{line_at, line_none, no_feed}
use Rattle.tangle_script.proofs.commands.split_line.Goals as goal

pub returns-in-Some-clause-some : goal.returns-in-Some-clause-some
returns-in-Some-clause-some c =
    let h = c.in-Some.ensures in
    rw (take_rest, add-one)
    (line_at c.args.bytes.now c.in-Some.end h.0.high
    (λ k l. false_from_ne_true _ (h.0.before k (omega arith) l)) (eqb-true _ 10 h.1))

pub returns-in-None-clause-none : goal.returns-in-None-clause-none
returns-in-None-clause-none c =
    let e = line_none [] c.args.bytes.now
    (λ k l. false_from_ne_true _ (c.in-None.ensures k (omega arith) l)) in
    (e, (no_feed [] [] c.args.bytes.now e).1)
