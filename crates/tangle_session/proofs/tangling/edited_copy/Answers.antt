use Rattle.std.proofs.Common.{arith, rules}
use Rattle.std.proofs.lemmas.Grind.{common_steps}
use Rattle.tangle_session.proofs.EditLemmas.{fits_edited, from_none}
use Rattle.tangle_session.proofs.tangling.edited_copy.Goals as goal

pub loop-at-init : goal.loop-at-init
loop-at-init c = rw c.in_ok-copy.ensures (search (rules, from_none))

pub loop-at-preserved : goal.loop-at-preserved
loop-at-preserved c = grind (arith, common_steps, fits_edited)
