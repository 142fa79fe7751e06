use Rattle.std.proofs.Common.{drop}
use Rattle.tangle_bodies.specs.Nodes.{title_at, titles_at}
use Rattle.tangle_expansion.specs.Expanded.{shared_of, shared_symbols, symbols_of}
use Rattle.tangle_expansion.specs.Numbers.{expansion_bytes, titles_used}
use Rattle.tangle_expansion.specs.Writing.{Wrote, bytes_from}
use Rattle.tangle_expansion.proofs.expansion.Expansion.+write_text_after.Given as goal

abbrev pub decreases-write_text_after : goal.decreases-write_text_after
decreases-write_text_after g l = goal.size-write_text_after g l

abbrev pub invariant-loop-i : goal.invariant-loop-i
invariant-loop-i g l =
    let t = g.S.Sink.stream in
    let node = title_at l.numbers.names l.fn.node in
    let uses = titles_used l.numbers in
    Wrote (t l.fn.sink) (t l.sink) l.fn.so_far l.so_far
    (bytes_from node l.text.items.now l.at l.numbers (shared_symbols uses
    (shared_of (drop l.i l.shared.used.items)) (drop l.i (titles_at l.numbers.names l.uses))))
    (expansion_bytes l.numbers (symbols_of uses node l.fn.self))
