use Rattle.std.proofs.Common.{rules}
use Rattle.std.proofs.lemmas.List.{length-set, take-append-drop}
use Rattle.tangle_bodies.proofs.ResolvedLemmas.{all-resolved, step-resolved}
use Rattle.tangle_bodies.proofs.body_builder.mark_unresolved.Goals as goal

pub returns-then-all_resolve : goal.returns-then-all_resolve
returns-then-all_resolve c = search (rules, all-resolved, take-append-drop)

pub loop-i-preserved : goal.loop-i-preserved
loop-i-preserved c = search (rules, step-resolved, length-set)
