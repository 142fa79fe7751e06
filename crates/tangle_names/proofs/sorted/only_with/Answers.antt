use Rattle.std.proofs.Common.{length, ◌<◌, ◌≡◌, arith, rules, Bor, List, ℕ}
use Rattle.std.proofs.lemmas.Bool.Decides.{nat_tests}
use Rattle.std.specs.Ordering.{nat_cmp, is_lt}
use Rattle.std.specs.Cmp.Lexicographic.{slice_cmp}
use Rattle.std.proofs.lemmas.List.Sorted.{IsPartitionPoint-from_clause}
use Rattle.tangle_names.specs.Names.{only_with}
use Rattle.tangle_names.specs.Sorted.{borrowed_names}
use Rattle.tangle_names.proofs.SortedLemmas.{at_text, is_parted, meaning_at, meant_at, size}
use Rattle.tangle_names.proofs.sorted.only_with.Goals as goal
use Rattle.tangle_names.proofs.sorted.only_with.Goals.{After-partition_point-first}

meant : (c : After-partition_point-first)
    → only_with (borrowed_names c.args.sorted.now) c.args.prefix.now
    ≡ meaning_at (borrowed_names c.args.sorted.now) c.args.prefix.now c.partition_point-first.result
meant c =
    let sorted = c.args.sorted.now in
    let lower = λ (b : Bor (List ℕ)). is_lt (slice_cmp nat_cmp b.now c.args.prefix.now) in
    let point = IsPartitionPoint-from_clause lower sorted _ c.partition_point-first.ensures.partitioned
    (is_parted sorted c.args.prefix.now c.requires) (λ a r q k. search rules) in
    let at = λ (k : ℕ). at_text sorted k c.args.prefix in
    meant_at (borrowed_names sorted) c.args.prefix.now c.partition_point-first.result c.requires
    (λ k low h. rw (at k (omega (arith, size sorted))) (point.0 k c.args.prefix (omega arith) low))
    (λ h. let h : c.partition_point-first.result < length sorted = omega (arith, size sorted) in
    rw (at c.partition_point-first.result h)
    (point.1 c.partition_point-first.result c.args.prefix (omega arith) h))

pub returns-then-not-begins_at : goal.returns-then-not-begins_at
returns-then-not-begins_at c =
    grind (arith, nat_tests, meant (goal.at.returns-then-not-begins_at c).After-partition_point-first)

pub returns-then-begins_at : goal.returns-then-begins_at
returns-then-begins_at c =
    grind (arith, nat_tests, meant (goal.at.returns-then-begins_at c).After-partition_point-first)

pub returns-else-begins_at : goal.returns-else-begins_at
returns-else-begins_at c =
    let found = meant (goal.at.returns-else-begins_at c).After-partition_point-first in
    let at = at_text c.args.sorted.now c.partition_point-first.result in
    grind (arith, nat_tests, found, at, size c.args.sorted.now)
