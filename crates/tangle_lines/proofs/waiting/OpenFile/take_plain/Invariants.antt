use Rattle.std.proofs.Common.{◌≡◌, ◌+◌, List, ◌++◌, length, drop}
use Rattle.std.specs.List.{All}
use Rattle.tangle_lines.specs.Reading.{WaitingLine, waiting_lines, IsShort}
use Rattle.tangle_lines.specs.Waiting.{PassesOn}
use Rattle.tangle_lines.proofs.waiting.OpenFile.take_plain.Given as goal

abbrev pub invariant-loop-index : goal.invariant-loop-index
invariant-loop-index l = record {
  count : length l.lines.items ≡ length l.fn.lines.items + l.index;
  short : All IsShort l.fn.lines.items → All IsShort l.lines.items;
  passed : (rest : List WaitingLine) →
      PassesOn l.changes l.fn.lines.items
      (waiting_lines l.self-inside.file l.self-inside.is_changed l.self-inside.depth (l.read + 1) l.file_lines ++ rest)
      l.index l.lines.items
      (waiting_lines l.self-inside.file l.self-inside.is_changed
      l.self-inside.depth (l.read + l.index + 1) (drop l.index l.file_lines)
      ++ rest);
}
