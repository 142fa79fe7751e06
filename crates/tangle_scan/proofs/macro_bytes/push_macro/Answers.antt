use Rattle.std.proofs.lemmas.Bool.Decides.{nat_tests}
use Rattle.std.proofs.Common.{arith, append_assoc}
use Rattle.std.proofs.lemmas.List.Concat.{flat_map-append}
use Rattle.tangle_scan.proofs.lemmas.RestLemmas.{split-at}
use Rattle.tangle_scan.proofs.macro_bytes.push_macro.Goals as goal

pub loop-token-preserved : goal.loop-token-preserved
loop-token-preserved c =
    let split = split-at c.without_end-token-items.result.now c.loop-token.token-index c.loop-token-test.true in
    grind (arith, nat_tests, append_assoc, flat_map-append)
