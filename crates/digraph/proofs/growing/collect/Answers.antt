use Rattle.std.proofs.Common.{rules}
use Rattle.std.proofs.Common.{append_assoc}
use Rattle.std.proofs.lemmas.List.{reverse-append}
use Rattle.digraph.proofs.LinkLemmas.{chain_step, chain_none}
use Rattle.digraph.proofs.growing.collect.Goals as goal

pub loop-place-preserved : goal.loop-place-preserved
loop-place-preserved g c = search (rules, reverse-append, chain_step, append_assoc)

pub returns : goal.returns
returns g c = search (rules, chain_none)
