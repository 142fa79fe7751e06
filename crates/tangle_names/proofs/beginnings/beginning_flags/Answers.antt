use Rattle.std.proofs.Common.{rules}
use Rattle.std.proofs.lemmas.Simd.{splat_is_map}
use Rattle.std.proofs.Common.{◌∙◌, ◌<◌, ◌≤◌, false, sym, length, arith}
use Rattle.std.proofs.lemmas.List.{take_all}
use Rattle.tangle_names.specs.Faults.{begins_another}
use Rattle.tangle_names.specs.Sorted.{borrowed_names}
use Rattle.tangle_names.proofs.SortedLemmas.{at_text, size}
use Rattle.tangle_names.proofs.ContainsLemmas.{map_same}
use Rattle.tangle_names.proofs.BeginningLemmas.{all-among, begins_among, more-among, next-begins}
use Rattle.tangle_names.proofs.beginnings.beginning_flags.Goals as goal
use Rattle.tangle_names.proofs.beginnings.beginning_flags.Goals.{then-begins_at, else-begins_at}

pub loop-position-init : goal.loop-position-init
loop-position-init c =
    c.in_ok-begins.ensures.items_if_clones_equal (λ y e. e)
    ∙ splat_is_map c.args.names.now.keys c.len.result false (sym c.len.ensures.len)

pub loop-position-preserved : goal.loop-position-preserved
loop-position-preserved c =
    let names = c.args.names.now.keys in
    let texts = borrowed_names c.args.sorted.now in
    let k = c.loop-position.position in
    let inside : k < length texts = omega (arith, size c.args.sorted.now, c.loop-position-test.true) in
    let at = at_text c.args.sorted.now k _ c.loop-position-test.true in
    let next = next-begins names texts k c.requires.order c.requires.same inside in
    let more = more-among names texts k _ c.begins_at.result _ c.requires.distinct inside at
    (rw at at next ∙ sym c.begins_at.ensures) c.loop-position.invariant in
    elim c.if-begins_at.branch [
      | then-begins_at w ↦ search (rules, more)
      | else-begins_at w ↦ search (rules, more)
    ]

pub returns : goal.returns
returns c =
    let names = c.args.names.now.keys in
    let texts = borrowed_names c.args.sorted.now in
    let all : length texts ≤ c.loop-position.position = omega (arith, size c.args.sorted.now, c.loop-position-test.false) in
    c.loop-position.invariant ∙ rw (take_all c.loop-position.position texts all)
    (map_same (begins_among names texts) (begins_another names) names
    (λ name d. all-among names texts name (c.requires.same.over name d)))
