use Rattle.std.proofs.Common.{rules}
use Rattle.tangle_session.specs.Headline.{web_at}
use Rattle.tangle_session.proofs.AnalysisLemmas.{analysis_of}
use Rattle.tangle_session.proofs.TangleLemmas.{fit_to_start, lists_nodes}
use Rattle.tangle_session.proofs.session.Session.start.Goals as goal

pub returns-in-Ok-expand_all-clause-started : goal.returns-in-Ok-expand_all-clause-started
returns-in-Ok-expand_all-clause-started c =
    let analysis = analysis_of c.args.files c.args.roles c.marks.result c.in-Ok.analysis c.marks.ensures
    c.in-Ok.ensures.made in
    let made = c.in-Ok-expand_all.ensures.work in
    let lists = lists_nodes (web_at c.args.files c.args.roles) c.in-Ok.analysis.store made.0
    analysis.store.store analysis.store.names made.2 in
    rw (made.1, c.new-work.ensures) (search rules)

pub invariant_of-result : goal.invariant_of-result
invariant_of-result c =
    let analysis = analysis_of c.args.files c.args.roles c.marks.result c.in-Ok.analysis c.marks.ensures
    c.in-Ok.ensures.made in
    search (rules, fit_to_start)
