use Rattle.std.proofs.Common.{◌≡◌, ◌≤◌, ◌<◌, ◌+◌, ◌-◌, true, drop, get_or}
use Rattle.tangle_text.specs.Bytes.{is_word_byte}
use Rattle.tangle_text.specs.Runs.{is_before_quote}
use Rattle.tangle_text.proofs.runs.before_word.Given as goal

abbrev pub invariant-loop-start : goal.invariant-loop-start
invariant-loop-start l = record {
  low : l.from ≤ l.start;
  high : l.start < l.end;
  word : is_word_byte (get_or l.bytes l.start 0) ≡ true;
  before : is_before_quote (drop (l.start + 1) l.bytes) ≡ true;
}

abbrev pub decreases-loop-start : goal.decreases-loop-start
decreases-loop-start l = l.start - l.from
