use Rattle.std.proofs.Common.{◌≡◌, ◌≤◌, ◌-◌, ◌++◌, List, length}
use Rattle.tangle_bodies.specs.Flat.{Symbol}
use Rattle.tangle_bodies.specs.Shapes.{Title}
use Rattle.tangle_expansion.specs.Numbers.{NumbersRead}
use Rattle.tangle_expansion.specs.Writing.{bytes_between, bytes_from}
use Rattle.tangle_expansion.proofs.passing.after_bytes.Given as goal

abbrev pub invariant-loop-at : goal.invariant-loop-at
invariant-loop-at l = record {
  tag : l.fn.from.tag ≤ l.at.tag;
  start : l.fn.from.start ≤ l.at.start;
  text : (node : Title) (numbers : NumbersRead) (used : List (List Symbol))
      → bytes_from node l.items l.fn.from numbers used
      ≡ bytes_between l.items.bytes.items l.fn.from.start l.at.start ++ bytes_from node l.items l.at numbers used;
}

abbrev pub decreases-loop-at : goal.decreases-loop-at
decreases-loop-at l = length l.items.tags.items - l.at.tag
