use Rattle.std.proofs.Common.{rules}
use Rattle.std.proofs.Common.{◌≡◌, ◌+◌, ◌<◌, ◌∷◌, ◌++◌, [], ap, append-nil, drop, get_or, length, refl, sym, arith}
use Rattle.std.proofs.lemmas.List.{get_or-map, get_or_read, length-map}
use Rattle.std.specs.Prelude.{Option}
use Rattle.tangle_bodies.specs.Nodes.{title_at, titles_at}
use Rattle.tangle_expansion.specs.Expanded.{Expanded, shared_of, shared_symbols, symbols_if_any}
use Rattle.tangle_expansion.specs.Numbers.{expansion_bytes, titles_used}
use Rattle.tangle_expansion.specs.Writing.{bytes_from}
use Rattle.tangle_expansion.proofs.SharedLemmas.{shared_at, shared_end}
use Rattle.tangle_expansion.proofs.WriteLemmas.{wrote_more}
use Rattle.tangle_expansion.proofs.expansion.Expansion.+write_text_after.Goals as goal
use Rattle.tangle_expansion.proofs.expansion.Expansion.+write_text_after.Goals.{in-Some, in_default}

pub loop-i-init : goal.loop-i-init
loop-i-init g t c = λ last all more. search rules

pub loop-i-preserved : goal.loop-i-preserved
loop-i-preserved g t c =
    let numbers = c.args.numbers.now in
    let uses = titles_used numbers in
    let node = title_at numbers.names c.args.node in
    let nodes = c.uses-uses.result.now in
    let titles = titles_at numbers.names nodes in
    let used = c.deref-shared.result.now.used.items in
    let i = c.loop-i.i in
    let title = title_at numbers.names (get_or nodes i 0) in
    let o = c.index.result.now in
    let left = shared_symbols uses (shared_of (drop (i + 1) used)) (drop (i + 1) titles) in
    let rest = bytes_from node c.deref-items.result.now c.write_to_use-before.result.0 numbers left in
    let low : i < length nodes = omega (arith, c.loop-i-test.true, c.min-i-end.ensures) in
    let less : i < length used = search rules in
    let titled : title ≡ get_or titles i title = sym (get_or-map (title_at numbers.names) nodes i 0 title low) in
    let room : i < length titles = omega (arith, low, length-map nodes (title_at numbers.names)) in
    let here = rw (shared_at uses titles used i title o room less titled c.index.ensures) at c.loop-i.invariant in
    let before = c.write_to_use-before.ensures node (symbols_if_any uses title o ∷ left) c.of_node.ensures.numbers in
    let spaced = wrote_more _ _ _ _ _ _ _ _ _ _
    (λ last all more. here last all (before last all more)) refl c.write_after-so_far.ensures in
    let shared = λ (o : Option Expanded). expansion_bytes numbers (symbols_if_any uses title o) ++ rest in
    elim c.match-index.branch [
      | in-Some w ↦ rw (w.sink-is, w.so_far-is)
          (wrote_more _ _ _ _ _ _ _ _ _ _ spaced (ap shared w.in-Some.is) (rw (get_or_read _ _ _ low w.index-uses-i.is 0) at w.write_text_after-so_far.ensures.writes))
      | in_default w ↦ rw (w.sink-is, w.so_far-is)
          (λ last all more. spaced last all (rw (ap shared w.in_default.is) more))
    ]

pub returns-clause-writes : goal.returns-clause-writes
returns-clause-writes g t c =
    let numbers = c.args.numbers.now in
    let done = shared_end (titles_used numbers) (titles_at numbers.names c.uses-uses.result.now)
    c.deref-shared.result.now.used.items c.loop-i.i (search (rules, length-map)) in
    (rw done at c.loop-i.invariant) _ _
    (c.write_to_use-all.ensures (title_at numbers.names c.args.node) [] c.of_node.ensures.numbers _ _
    (λ old output so_far fits. rw append-nil so_far))
