use Rattle.std.proofs.Common.{arith}
use Rattle.std.proofs.lemmas.Bool.Decides.{nat_tests}
use Rattle.std.proofs.Common.{◌∙◌, sym}
use Rattle.std.proofs.lemmas.List.{take_rest}
use Rattle.tangle_script.specs.Buffer.{bytes}
use Rattle.tangle_script.proofs.CommandLemmas.{waits_in}
use Rattle.tangle_script.proofs.ConversationLemmas.{goes_nowhere}
use Rattle.tangle_script.proofs.running.answer_chunk.Goals as goal

pub returns-then-not-ends_a_line : goal.returns-then-not-ends_a_line
returns-then-not-ends_a_line g c =
    let none = rw (take_rest, c.as_slice.ensures) at
    (sym c.ends_a_line.ensures ∙ c.if-not-ends_a_line.true) in
    let all = waits_in c.args.searched (bytes c.args.buffer.now) c.requires.waits none in
    grind (arith, nat_tests, goes_nowhere)
