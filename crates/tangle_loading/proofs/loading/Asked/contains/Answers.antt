use Rattle.std.proofs.Common.{◌∙◌, ap}
use Rattle.std.specs.List.{list_any}
use Rattle.std.specs.Str.{bytes_eq}
use Rattle.tangle_loading.proofs.TableLemmas.{list_any-map}
use Rattle.tangle_loading.proofs.loading.Asked.contains.Goals as goal

pub returns : goal.returns
returns c =
    c.contains.ensures ∙ list_any-map (bytes_eq c.args.name.now) (λ k. k.items) c.self.inside.names.keys
    ∙ ap (list_any (bytes_eq c.args.name.now)) c.self.view_is
