use Rattle.std.proofs.Common.{rules}
use Rattle.std.proofs.Common.{◌∙◌, codes, map, refl, ap, List}
use Rattle.clap.specs.Words.{Text, takes}
use Rattle.ctangle_cli.proofs.RetangleLemmas.{err_gives, no_fault, no_names, some_fault, value_is}
use Rattle.ctangle_cli.specs.RetangleArguments.{retangle_app}
use Rattle.ctangle_cli.proofs.retangle_names.read_values.Goals as goal

pub returns-in_err-matches-clause-accepted : goal.returns-in_err-matches-clause-accepted
returns-in_err-matches-clause-accepted g c =
    let arguments : List Text = map g.S.AsStr.text c.args.arguments.now in
    err_gives c.from_residual-in_err-matches.result _ _ c.from_residual-in_err-matches.ensures.1
    (λ fault gives accepted. gives.1 (c.in_err-matches.ensures.passes
    (ap (λ app. takes app arguments) c.in_ok-command.ensures.app ∙ accepted)))

pub returns-in_err-matches-clause-usage : goal.returns-in_err-matches-clause-usage
returns-in_err-matches-clause-usage g c =
    let arguments : List Text = map g.S.AsStr.text c.args.arguments.now in
    err_gives c.from_residual-in_err-matches.result _ _ c.from_residual-in_err-matches.ensures.1
    (λ fault gives other. no_names arguments
    (some_fault c.in_ok-command.command retangle_app arguments c.in_ok-command.ensures.app refl
    c.in_err-matches.field-0.0 c.in_err-matches.ensures.kinds (λ short. other (gives.1 short))))

pub returns-clause-faultless : goal.returns-clause-faultless
returns-clause-faultless g c = no_fault c.in_ok-command.command retangle_app _ c.in_ok-command.ensures.app refl
    c.in_ok-matches.ensures.kinds

pub returns-clause-ok : goal.returns-clause-ok
returns-clause-ok g c =
    let arguments : List Text = map g.S.AsStr.text c.args.arguments.now in
    let value = λ (id : Text). value_is c.in_ok-command.command retangle_app c.in_ok-matches.matches
    arguments id c.in_ok-command.ensures.app refl c.in_ok-matches.ensures.matches in
    search (rules, value (codes "WEB"), value (codes "change"), value (codes "out"))
