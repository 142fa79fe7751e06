use Rattle.std.proofs.lemmas.Bool.Decides.{nat_tests}
use Rattle.std.proofs.lemmas.Grind.{common_steps}
use Rattle.std.proofs.Common.{arith}
use Rattle.std.proofs.lemmas.List.{get_or_read}
use Rattle.digraph.specs.Evidence.{IsEvidence}
use Rattle.digraph.proofs.ReachLemmas.{not_itself}
use Rattle.digraph.proofs.RootLemmas.{by_root}
use Rattle.digraph.proofs.evidence.Evidence.conclusion.Goals as goal

pub returns-then-leads_to_root : goal.returns-then-leads_to_root
returns-then-leads_to_root c =
    let given : IsEvidence c.args.uses.now c.args.self.now = c.requires.evidence in
    grind (arith, nat_tests, get_or_read, by_root _ _ _ _ c.args.n given.from_root given.to_root)

pub returns-then-lowest-index : goal.returns-then-lowest-index
returns-then-lowest-index c =
    let given : IsEvidence c.args.uses.now c.args.self.now = c.requires.evidence in
    let above = rw (c.row-row.ensures, c.deref-then-self.ensures.value) at c.lowest.ensures in
    grind (arith, common_steps, get_or_read, not_itself _ _ c.args.n _ (given.never_falls c.if-self.true) above)
