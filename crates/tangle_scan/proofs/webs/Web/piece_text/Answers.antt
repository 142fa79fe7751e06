use Rattle.std.proofs.Common.{get_or, ap, subst, ◌∙◌}
use Rattle.tangle_scan.specs.Texts.{IsTextOf, text_at, text_of}
use Rattle.tangle_scan.specs.WellFormed.{IsWellFormed}
use Rattle.tangle_scan.specs.Web.{WebRead, no_piece, web_of}
use Rattle.tangle_scan.specs.declared.webs.Web.TheInside.{Inside}
use Rattle.tangle_scan.proofs.lemmas.GatheredLemmas.{web-text, web-uses}
use Rattle.tangle_scan.proofs.webs.Web.piece_text.Goals as goal

pub returns-clause-text : goal.returns-clause-text
returns-clause-text c =
    let n = c.args.number in
    subst (λ (w : WebRead). IsTextOf w.texts (get_or w.pieces n no_piece).items (text_of c.at.result)) c.self.view_is
    (web-text (web_of c.self.inside.source.now) _ n (text_of c.at.result) c.self.invariant.gathered.piece_texts
    (c.at.ensures ∙ ap (λ (i : Inside). text_at i.builder.texts n) c.self-inside.view_is))

pub returns-clause-uses : goal.returns-clause-uses
returns-clause-uses c =
    web-uses _ c.args.number _ (returns-clause-text c) (subst IsWellFormed c.self.view_is c.self.invariant.well_formed)
