use Rattle.std.proofs.Common.{arith}
use Rattle.std.proofs.lemmas.Bool.Decides.{nat_tests}
use Rattle.std.proofs.lemmas.List.{drop_more, map_push, take_more}
use Rattle.tangle_names.proofs.ResolvingLemmas.{resolved-first}
use Rattle.tangle_names.specs.declared.sorted.Meaning.TheVariants.{Nothing}
use Rattle.tangle_names.proofs.numbers.resolve_all.Goals as goal

pub loop-meaning-preserved : goal.loop-meaning-preserved
loop-meaning-preserved c =
    let rest = drop_more c.args.meanings.now c.loop-meaning.meaning-index Nothing c.loop-meaning-test.true in
    let done = take_more c.args.meanings.now c.loop-meaning.meaning-index Nothing c.loop-meaning-test.true in
    grind (arith, nat_tests, map_push, resolved-first, rest, done)
