use Rattle.std.proofs.Common.{◌∙◌, ap, map, sym, subst}
use Rattle.std.specs.List.{IsDistinct}
use Rattle.std.specs.Prelude.{find}
use Rattle.std.specs.Str.{bytes_eq}
use Rattle.tangle_expansion.specs.Outputs.{OutputRead}
use Rattle.tangle_session.proofs.OutputLemmas.{find_here}
use Rattle.tangle_session.proofs.tangling.SessionState.find_output_at.Goals as goal

pub returns-in-Some : goal.returns-in-Some
returns-in-Some c = find_here c.args.name.now c.outputs.result.now c.args.index c.in-Some.output.now
    (subst (λ os. IsDistinct bytes_eq (map (λ (o : OutputRead). o.name) os)) (sym c.outputs.ensures) c.requires)
    c.in-Some.ensures.lookup.3.0 c.in-Some.ensures.lookup.1
    (ap (bytes_eq c.args.name.now) (sym c.name.ensures) ∙ sym c.eq.ensures ∙ c.if-eq.true)
    ∙ ap (find (λ (o : OutputRead). bytes_eq c.args.name.now o.name)) c.outputs.ensures
