use Rattle.std.proofs.Common.{arith}
use Rattle.std.proofs.lemmas.Bool.Decides.{nat_tests}
use Rattle.std.proofs.lemmas.List.{at_drop_all}
use Rattle.tangle_lexer.proofs.lemmas.NameWords.{is_single_spaced, single-spaced}
use Rattle.tangle_lexer.proofs.names.has_single_spaces.Goals as goal

pub returns-then-not-white : goal.returns-then-not-white
returns-then-not-white c =
    let all = at_drop_all (is_single_spaced c.loop-byte.white) c.args.bytes.now c.loop-byte.byte-index in
    grind (arith, nat_tests, single-spaced c.args.bytes.now, all)
