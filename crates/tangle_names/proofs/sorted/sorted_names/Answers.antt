use Rattle.std.proofs.Common.{arith}
use Rattle.std.proofs.lemmas.Grind.{common_steps}
use Rattle.std.proofs.lemmas.List.Filters.{dedup_is}
use Rattle.tangle_names.specs.Names.{full_names}
use Rattle.tangle_names.proofs.SortedLemmas.{order_of, same_of}
use Rattle.tangle_names.proofs.sorted.sorted_names.Goals as goal

pub returns-clause-order : goal.returns-clause-order
returns-clause-order c = order_of _ _ c.sort_unstable.ensures.sorted (dedup_is _ _ _ c.dedup.ensures.filtered)

pub returns-clause-same : goal.returns-clause-same
returns-clause-same c = same_of (full_names c.args.occurrences.now) _ _ _ (grind (arith, common_steps))
    c.sort_unstable.ensures.permutation (dedup_is _ _ _ c.dedup.ensures.filtered)
