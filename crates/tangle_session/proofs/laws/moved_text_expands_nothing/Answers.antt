use Rattle.tangle_session.proofs.MoveLemmas.{moved_same, nothing_affected}
use Rattle.tangle_session.proofs.laws.moved_text_expands_nothing.Goals as goal

pub returns : goal.returns
returns c = record { nothing = nothing_affected; moved = moved_same }
