use Rattle.std.proofs.Common.{rules}
use Rattle.std.proofs.Common.{◌≡◌, true, codes, is_some, [], ◌∷◌, refl, ap, subst, arith}
use Rattle.std.proofs.lemmas.Result.{IfOk-weaker}
use Rattle.clap.specs.Words.{first_value, found_of}
use Rattle.clap.proofs.CallerLemmas.{required_in_chain}
use Rattle.ctangle_cli.proofs.RetangleLemmas.{distinct_three, fits, fits_three}
use Rattle.ctangle_cli.proofs.retangle_names.retangle_command.Goals as goal

pub returns-clause-web : goal.returns-clause-web
returns-clause-web c =
    let web = c.web_argument-web in
    let change = c.file_option-change in
    let out = c.file_option-out in
    let empty = c.empty_command-empty in
    let web_id : web.result.id.now ≡ codes "WEB" = ap (λ r. r.id) web.ensures.rule in
    let change_id : change.result.id.now ≡ codes "change" = ap (λ r. r.id) change.ensures.rule in
    let out_id : out.result.id.now ≡ codes "out" = ap (λ r. r.id) out.ensures.rule in
    IfOk-weaker c.arg-3.result _ _
    (λ cmd added m parsed. subst (λ t. is_some (first_value (found_of m) t) ≡ true) web_id
    (required_in_chain empty.result cmd (web.result ∷ change.result ∷ out.result ∷ []) 0 web.result m
    (c.in_ok-arg.field-0, c.in_ok-arg.ensures, (c.in_ok-arg-2.field-0, c.in_ok-arg-2.ensures, (cmd, added, refl)))
    empty.ensures.empty.0 empty.ensures.empty.1 empty.ensures.plain.0 empty.ensures.plain.1
    (fits_three web.result change.result out.result
    (search (rules, fits)) (search (rules, fits)) (search (rules, fits)))
    (distinct_three web.result change.result out.result web_id change_id out_id)
    (omega arith) web.ensures.needed parsed))
    c.arg-3.ensures
