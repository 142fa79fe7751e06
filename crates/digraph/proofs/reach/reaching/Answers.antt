use Rattle.std.proofs.Common.{◌≡◌, length, arith, rules}
use Rattle.std.proofs.lemmas.List.{with_items_is}
use Rattle.digraph.proofs.FindingLemmas.{all_decided}
use Rattle.digraph.proofs.reach.reaching.Goals as goal

pub returns-clause-flags : goal.returns-clause-flags
returns-clause-flags c =
    let size : length c.find_each.new.found ≡ c.loop.found.len =
    omega (arith, c.find_each.ensures.finding.size, c.loop.invariant.size, c.loop.found.ok.0) in
    rw (with_items_is c.loop.found c.find_each.new.found size) (search (rules, all_decided))
