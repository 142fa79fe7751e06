use Rattle.std.proofs.Common.{◌≡◌, ◌≤◌, ◌-◌, ◌++◌, List, length}
use Rattle.tangle_bodies.specs.Flat.{Symbol}
use Rattle.tangle_bodies.specs.Shapes.{Title}
use Rattle.tangle_expansion.specs.Numbers.{node_numbers}
use Rattle.tangle_expansion.specs.Writing.{Wrote, bytes_between, bytes_from}
use Rattle.tangle_expansion.proofs.writing.write_to_use.Given as goal

abbrev pub invariant-loop-end : goal.invariant-loop-end
invariant-loop-end g l =
    let t = g.S.Sink.stream in
    record {
      low : l.at.start ≤ l.end.start;
      wrote : (node : Title) (used : List (List Symbol)) → l.text.pieces ≡ node_numbers l.text.numbers.now node
          → Wrote (t l.fn.sink) (t l.sink) l.fn.so_far l.so_far
          (bytes_between l.text.items.now.bytes.items l.at.start l.end.start
          ++ bytes_from node l.text.items.now l.end l.text.numbers.now used)
          (bytes_from node l.text.items.now l.fn.from l.text.numbers.now used);
    }

abbrev pub decreases-loop-end : goal.decreases-loop-end
decreases-loop-end g l = length l.text.items.now.tags.items - l.end.tag
