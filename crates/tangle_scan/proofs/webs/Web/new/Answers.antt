use Rattle.tangle_scan.proofs.webs.Web.new.Goals as goal

pub invariant_of-result : goal.invariant_of-result
invariant_of-result c = c.requires
