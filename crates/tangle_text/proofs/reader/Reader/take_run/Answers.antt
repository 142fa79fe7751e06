use Rattle.std.proofs.Common.{rules}
use Rattle.std.proofs.lemmas.Bool.Decides.{nat_tests}
use Rattle.std.proofs.Common.{arith}
use Rattle.tangle_text.specs.Runs.{run_count}
use Rattle.tangle_text.proofs.TakenLemmas.{run_count-taken, takes}
use Rattle.tangle_text.proofs.reader.Reader.take_run.Goals as goal

pub returns-then-end-start : goal.returns-then-end-start
returns-then-end-start c =
    search (rules, run_count-taken, nat_tests)

pub returns : goal.returns
returns c =
    let text = c.args.self.now in
    let count = run_count-taken c.self.inside text c.self.view_is c.requires in
    let taken = takes c.self.inside text (run_count text) c.run_end-end.result c.self.view_is c.requires in
    grind (arith, nat_tests, taken, count)
