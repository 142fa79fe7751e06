use Rattle.std.proofs.Common.{◌∙◌, ap, map}
use Rattle.tangle_names.specs.NameTable.{table_of}
use Rattle.tangle_expansion.specs.Outputs.{OutputRead}
use Rattle.tangle_graph.specs.Outputs.{outputs}
use Rattle.tangle_session.specs.Headline.{output_bytes, output_files, web_at}
use Rattle.tangle_session.specs.Sessions.{SessionRead}
use Rattle.tangle_session.proofs.OutputLemmas.{names_written}
use Rattle.tangle_session.proofs.session.Session.output_names.Goals as goal

pub returns : goal.returns
returns c =
    let roles = c.self.inside.roles in
    let web = web_at c.self.inside.state.files roles in
    c.new.ensures ∙ ap (map (λ (o : OutputRead). o.name)) (c.outputs.ensures ∙ c.self.invariant.analysis.store.outputs)
    ∙ names_written (output_bytes c.self.inside.state.files roles) (outputs web (table_of web) roles.out)
    ∙ ap (λ (s : SessionRead). map (λ f. f.0) (output_files s.files s.roles)) c.self.view_is
