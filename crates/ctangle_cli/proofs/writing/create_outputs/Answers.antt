use Rattle.std.proofs.Common.{rules}
use Rattle.tangle_session.proofs.NameLemmas.{names_distinct}
use Rattle.ctangle_cli.proofs.WriteLemmas.{next_output, stops_at_next, wrote_next}
use Rattle.ctangle_cli.proofs.writing.create_outputs.Goals as goal

pub create_output-requires : goal.create_output-requires
create_output-requires g c =
    (next_output _ _ _ _ _ _ c.in-Some.ensures.steps.0 (names_distinct _ _)
    c.loop-index.invariant.written).is_there

pub loop-index-preserved : goal.loop-index-preserved
loop-index-preserved g c =
    let next = next_output _ _ _ _ _ _ c.in-Some.ensures.steps.0 (names_distinct _ _)
    c.loop-index.invariant.written in
    search (rules, wrote_next _ _ _ _ _ _ next c.in-Ok.ensures.whole)

pub returns-in-Err-clause-stopped : goal.returns-in-Err-clause-stopped
returns-in-Err-clause-stopped g c =
    stops_at_next _ _ _ _ _ _ c.in-Err.fault
    (next_output _ _ _ _ _ _ c.in-Some.ensures.steps.0 (names_distinct _ _)
    c.loop-index.invariant.written) c.in-Err.ensures.prefix c.in-Err.ensures.nothing
