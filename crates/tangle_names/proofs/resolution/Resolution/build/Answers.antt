use Rattle.std.proofs.Common.{rules}
use Rattle.std.proofs.lemmas.Bool.Decides.{nat_tests}
use Rattle.std.proofs.Common.{◌≡◌, ◌∙◌, ap, map, length, arith}
use Rattle.std.proofs.lemmas.List.{length-map}
use Rattle.tangle_names.specs.Resolving.{first_file_number, names_in_order, resolve}
use Rattle.tangle_names.specs.Numbers.{number_below}
use Rattle.std.proofs.lemmas.Simd.{map-map}
use Rattle.tangle_names.specs.declared.first_numbers.Counted.TheVariants.{All, Files}
use Rattle.tangle_names.specs.Sorted.{borrowed_names}
use Rattle.tangle_names.proofs.KeptLemmas.{names_same}
use Rattle.tangle_names.proofs.LawLemmas.{inside}
use Rattle.tangle_names.proofs.TableLemmas.{distinct_names, firsts_are, meant_by}
use Rattle.tangle_names.proofs.resolution.Resolution.build.Goals as goal

pub beginning_flags-requires-clause-same : goal.beginning_flags-requires-clause-same
beginning_flags-requires-clause-same c =
    let sorted = c.in_ok-sorted.ensures.same in
    let meant = meant_by c.args.occurrences.now (borrowed_names c.in_ok-sorted.sorted.items) _ sorted
    (rw c.deref.ensures.value at c.in_ok-meanings.ensures) in
    rw (c.deref-5.ensures.value, c.in_ok-resolved.ensures.names, c.deref-2.ensures.value, meant.0)
    (names_same c.args.occurrences.now (borrowed_names c.in_ok-sorted.sorted.items) sorted)

pub beginning_flags-requires-clause-distinct : goal.beginning_flags-requires-clause-distinct
beginning_flags-requires-clause-distinct c =
    let os = c.args.occurrences.now in
    let meant = meant_by os (borrowed_names c.in_ok-sorted.sorted.items) _ c.in_ok-sorted.ensures.same
    (rw c.deref.ensures.value at c.in_ok-meanings.ensures) in
    let named : c.resolve_all.new.names.keys ≡ names_in_order os = grind (arith, nat_tests, meant) in
    rw named (distinct_names os)

pub returns : goal.returns
returns c =
    let os = c.args.occurrences.now in
    let meant = meant_by os (borrowed_names c.in_ok-sorted.sorted.items) _ c.in_ok-sorted.ensures.same
    (rw c.deref.ensures.value at c.in_ok-meanings.ensures) in
    let named : c.resolve_all.new.names.keys ≡ names_in_order os = grind (arith, nat_tests, meant) in
    let all : c.in_ok-resolved.resolved.items ≡ map (resolve os) os = grind (arith, nat_tests, meant) in
    let long : length c.resolve_all.new.names.keys ≡ length (names_in_order os) = ap length named in
    let count : length c.in_ok-resolved.resolved.items ≡ length os = ap length all ∙ length-map os (resolve os) in
    let firsts = firsts_are os All c.in_ok-first_occurrences.first_occurrences.items
    (omega (arith, c.in_ok-first_occurrences.ensures.size, c.len-count.ensures.len)) (grind (arith, nat_tests)) in
    let below = number_below (length os) in
    let files : map (number_below (length c.in_ok-resolved.resolved.items))
    c.in_ok-first_file_occurrences.first_file_occurrences.items ≡ map (first_file_number os) (names_in_order os) =
    rw count (ap (map below) (firsts_are os Files c.in_ok-first_file_occurrences.first_file_occurrences.items
    (omega (arith, c.in_ok-first_file_occurrences.ensures.size, c.len-count.ensures.len)) (grind (arith, nat_tests)))
    ∙ map-map below _ (names_in_order os)) in
    let below = rw (← long, ← all) at (inside os) in
    search (rules, below)
