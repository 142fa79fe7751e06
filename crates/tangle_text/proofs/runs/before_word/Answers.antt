use Rattle.std.proofs.Common.{rules}
use Rattle.std.proofs.lemmas.Bool.Decides.{nat_tests}
use Rattle.std.proofs.Common.{arith}
use Rattle.std.proofs.lemmas.Bool.{ne_eqb}
use Rattle.tangle_text.proofs.ItemLemmas.{column-word}
use Rattle.tangle_text.proofs.runs.before_word.Goals as goal
use Rattle.tangle_text.proofs.runs.before_word.Goals.{then-loop-start-test+else-is_word_byte, else-loop-start-test}
use Rattle.tangle_text.proofs.runs.before_word.Goals.{else-start-from-via-then-start-from+else-bytes-start-eq32, else-start-from-via-else-start-from}

pub returns-then-bytes-start-eq32-clause-start : goal.returns-then-bytes-start-eq32-clause-start
returns-then-bytes-start-eq32-clause-start c =
    grind (arith, nat_tests, column-word c.args.bytes.now c.args.from c.args.end c.requires.single c.loop-start.start)

pub returns-else-start-from-clause-start : goal.returns-else-start-from-clause-start
returns-else-start-from-clause-start c =
    let at = c.loop-start.invariant in
    (column-word c.args.bytes.now c.args.from c.args.end c.requires.single c.loop-start.start at.low at.high
    c.requires.inside.1 at.word at.before).1 (search (rules, else-loop-start-test, ne_eqb, else-start-from-via-else-start-from))
