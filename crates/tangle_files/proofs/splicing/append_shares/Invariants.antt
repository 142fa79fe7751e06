use Rattle.std.proofs.Common.{◌≡◌, ◌++◌, take}
use Rattle.tangle_files.proofs.splicing.append_shares.Given as goal

abbrev pub invariant-loop-line : goal.invariant-loop-line
invariant-loop-line l = l.made.items ≡ l.fn.made.items ++ take l.line-index l.lines
