use Rattle.std.proofs.Common.{rules, ap, arith, append_assoc, length, []}
use Rattle.std.proofs.lemmas.List.{get_or_default}
use Rattle.tangle_names.proofs.KeptLemmas.{warned}
use Rattle.tangle_names.proofs.faults.faults.Goals as goal

pub loop-id-preserved : goal.loop-id-preserved
loop-id-preserved c =
    let names = c.as_slice-names.ensures.keys in
    let more = warned c.args.web.now c.args.resolution.now c.loop-id.id _ _ c.bytes.result.now []
    c.requires
    (omega (arith, c.loop-id-test.true, ap length names)) c.index-begins.ensures c.index-first.ensures
    (search (rules, get_or_default)) in
    search (rules, append_assoc)
