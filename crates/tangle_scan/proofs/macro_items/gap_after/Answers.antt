use Rattle.std.proofs.lemmas.Bool.Decides.{nat_tests}
use Rattle.std.proofs.Common.{arith}
use Rattle.tangle_scan.specs.Rules.{texts_of}
use Rattle.tangle_scan.proofs.lemmas.MacroRunLemmas.{from-runs, gap-unfolded, left-unfolded}
use Rattle.tangle_scan.proofs.macro_items.gap_after.Goals as goal

pub returns-then-gap-clause-gap : goal.returns-then-gap-clause-gap
returns-then-gap-clause-gap c = grind (arith, nat_tests, gap-unfolded (texts_of c.args.source.now.lines) c.args.rest.now)

pub is_spaced-requires : goal.is_spaced-requires
is_spaced-requires c =
    rw c.read_gap.ensures.next (from-runs (texts_of c.args.source.now.lines) c.args.rest.now c.requires.runs)

pub returns-clause-gap : goal.returns-clause-gap
returns-clause-gap c =
    let left = left-unfolded (texts_of c.args.source.now.lines) c.args.is_first c.args.item c.args.rest.now in
    grind (arith, nat_tests, left c.requires.item c.requires.runs)
