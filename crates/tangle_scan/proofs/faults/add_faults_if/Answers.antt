use Rattle.std.proofs.Common.{rules}
use Rattle.tangle_scan.proofs.lemmas.RawLemmas.{no_fault}
use Rattle.tangle_scan.proofs.faults.add_faults_if.Goals as goal

pub returns-else-may_have_fault : goal.returns-else-may_have_fault
returns-else-may_have_fault c = search (rules, no_fault)
