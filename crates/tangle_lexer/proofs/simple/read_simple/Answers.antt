use Rattle.std.proofs.Common.{rules}
use Rattle.std.proofs.Common.{arith}
use Rattle.tangle_lexer.specs.Lexemes.{with_line}
use Rattle.tangle_lexer.proofs.lemmas.BlockLemmas.{reads-trans}
use Rattle.tangle_lexer.proofs.simple.read_simple.Goals as goal

pub loop-simple-preserved : goal.loop-simple-preserved
loop-simple-preserved c =
    let before = c.loop-simple.invariant in
    let step = c.in_ok-run_or_simple.ensures in
    record {
      read = λ lines ours. reads-trans lines _ _ _ c.args.from (with_line c.loop-simple.line c.args.from) _ c.args.reader.now
          c.loop-simple.here _ (before.read lines ours) (step.read lines (before.read lines ours).ours);
      adds = search rules;
      shorter = omega (arith, step.shorter, before.shorter);
      mode = before.mode;
    }

pub returns-clause-read : goal.returns-clause-read
returns-clause-read c = λ lines ours. rw c.with_line.ensures (c.loop-simple.invariant.read lines ours)
