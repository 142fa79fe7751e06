use Rattle.std.proofs.Common.{◌∙◌, ◌++◌, ◌∷◌, [], ap, map}
use Rattle.tangle_loading.proofs.AskLemmas.{asked_of_keys}
use Rattle.tangle_loading.proofs.loading.Asked.insert.Goals as goal

pub returns : goal.returns
returns c =
    ap (map (λ k. k.items)) c.in_ok-insert.ensures.keys
    ∙ asked_of_keys c.self.inside.names.keys c.in_ok-name.name
    (rw (c.in_ok-name.ensures.items, c.self.view_is) c.requires)
    ∙ (λ i. c.self.view_is i ++ c.in_ok-name.ensures.items i ∷ [])
