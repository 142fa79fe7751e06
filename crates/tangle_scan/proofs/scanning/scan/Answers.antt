use Rattle.std.proofs.Common.{arith}
use Rattle.std.proofs.lemmas.Bool.Decides.{nat_tests}
use Rattle.tangle_scan.proofs.laws.WebLaws.{web-line-truth}
use Rattle.tangle_scan.proofs.laws.WebsAsMeant.{web-as-meant}
use Rattle.tangle_scan.proofs.laws.WellFormedWebs.{web-well-formed}
use Rattle.tangle_scan.proofs.scanning.scan.Goals as goal

pub new-requires-clause-well_formed : goal.new-requires-clause-well_formed
new-requires-clause-well_formed c = web-well-formed c.args.source.now

pub returns-clause-web : goal.returns-clause-web
returns-clause-web c = grind (arith, nat_tests)

pub returns-clause-well_formed : goal.returns-clause-well_formed
returns-clause-well_formed c = rw (returns-clause-web c) (web-well-formed c.args.source.now)

pub returns-clause-line_truth : goal.returns-clause-line_truth
returns-clause-line_truth c = rw (returns-clause-web c) (web-line-truth c.args.source.now)

pub returns-clause-as_meant : goal.returns-clause-as_meant
returns-clause-as_meant c = rw (returns-clause-web c) (web-as-meant c.args.source.now)
