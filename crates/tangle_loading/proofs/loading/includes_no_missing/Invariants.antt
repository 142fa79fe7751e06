use Rattle.std.proofs.Common.{◌≡◌, ◌<◌, ℕ, false}
use Rattle.std.specs.List.{list_any}
use Rattle.tangle_files.specs.Lines.{lines_at}
use Rattle.tangle_loading.specs.Endings.{misses_file}
use Rattle.tangle_loading.proofs.loading.includes_no_missing.Given as goal

abbrev pub invariant-loop-number : goal.invariant-loop-number
invariant-loop-number l = (n : ℕ) → n < l.number → list_any (misses_file l.files) (lines_at l.files n) ≡ false
