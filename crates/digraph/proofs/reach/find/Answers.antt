use Rattle.std.proofs.Common.{rules, sym, ◌∙◌}
use Rattle.digraph.specs.Reach.{on}
use Rattle.digraph.proofs.ReachLemmas.{only_set, here_at}
use Rattle.digraph.proofs.reach.find.Goals as goal
use Rattle.digraph.proofs.reach.find.Goals.{then-n-target, else-n-target}

pub returns-clause-finding : goal.returns-clause-finding
returns-clause-finding c = elim c.if-n-target.branch [
  | then-n-target w ↦ search (rules, only_set, here_at)
  | else-n-target w ↦
      (let one = rw w.row.ensures at (w.any_with.ensures.one (sym w.value-is ∙ c.if-not-any_with.false)) in
      only_set _ _ _ c.requires.finding (on one.1 (c.requires.finding.sound one.0 one.2)))
]
