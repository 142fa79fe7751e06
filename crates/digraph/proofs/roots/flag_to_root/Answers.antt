use Rattle.std.proofs.Common.{rules, arith}
use Rattle.std.proofs.lemmas.Bool.Decides.{nat_tests}
use Rattle.digraph.proofs.ReachLemmas.{only_set, here_at}
use Rattle.digraph.proofs.RootLemmas.{root_is_reached}
use Rattle.digraph.proofs.roots.flag_to_root.Goals as goal
use Rattle.digraph.proofs.roots.flag_to_root.Goals.{then-root-n-via-then-root-n}
use Rattle.digraph.proofs.roots.flag_to_root.Goals.{then-root-n-via-else-root-n+then-leads_to_root}

pub returns-then-root-n : goal.returns-then-root-n
returns-then-root-n c = elim c.then-root-n.branch [
  | then-root-n-via-then-root-n w ↦ search (rules, only_set, here_at)
  | then-root-n-via-else-root-n+then-leads_to_root w ↦
      only_set _ _ c.args.n c.requires.flags (grind (arith, nat_tests, root_is_reached))
]
