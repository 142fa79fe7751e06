use Rattle.std.proofs.Common.{◌≡◌, ◌<◌, ◌≤◌, ◌+◌, ℕ, drop, get_or, map, length}
use Rattle.tangle_names.specs.declared.Resolved.{Resolved}
use Rattle.tangle_lexer.specs.Occurrences.{OccurrenceRead}
use Rattle.tangle_names.specs.Numbers.{first_by_number}
use Rattle.tangle_names.proofs.first_numbers.first_numbers.Given as goal

abbrev pub invariant-loop-i : goal.invariant-loop-i
invariant-loop-i l = record {
  within : l.i ≤ length l.occurrences;
  size : length l.numbers.items ≡ l.count;
  numbers : (f : OccurrenceRead → Resolved) → l.resolved ≡ map f l.occurrences → (id : ℕ)
      → id < l.count → get_or l.numbers.items id 0 ≡ l.i + first_by_number f l.counted (drop l.i l.occurrences) id;
}

abbrev pub decreases-loop-i : goal.decreases-loop-i
decreases-loop-i l = l.i
