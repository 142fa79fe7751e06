use Rattle.std.proofs.Common.{◌≡◌, ◌≤◌, ◌-◌, [], length}
use Rattle.std.specs.List.{All}
use Rattle.tangle_lines.specs.Reading.{reads_from, before_reads, source_line_limit, IsShort}
use Rattle.tangle_lines.proofs.reading.read_on.Given as goal

abbrev pub invariant-loop-line : goal.invariant-loop-line
invariant-loop-line l = record {
  read :
      before_reads (record { lines = l.lines.items; faults = l.faults.items })
      (reads_from l.files l.change_file (record { waiting = l.waiting; changes = l.changes; taken = l.taken }))
      ≡ before_reads (record { lines = []; faults = l.fn.faults.items })
      (reads_from l.files l.change_file (record { waiting = l.fn.waiting; changes = l.fn.changes; taken = 0 }));
  few : length l.lines.items ≤ l.taken;
  limit : length l.lines.items ≤ source_line_limit;
  short : All IsShort l.lines.items;
}

abbrev pub decreases-loop-line : goal.decreases-loop-line
decreases-loop-line l = source_line_limit - l.taken
