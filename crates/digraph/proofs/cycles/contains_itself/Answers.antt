use Rattle.std.proofs.Common.{rules}
use Rattle.std.proofs.lemmas.Bool.{true_from_ne_false}
use Rattle.digraph.proofs.GraphLemmas.{use_in}
use Rattle.digraph.proofs.cycles.contains_itself.Goals as goal

pub returns-in_ok-reaching-in-None : goal.returns-in_ok-reaching-in-None
returns-in_ok-reaching-in-None c =
    search (rules, use_in, true_from_ne_false)
