use Rattle.std.proofs.Common.{rules}
use Rattle.std.proofs.lemmas.List.{drop_all}
use Rattle.tangle_bodies.proofs.CountLemmas.{body_counted}
use Rattle.tangle_bodies.proofs.nodes.NodeBody.symbol_count.Goals as goal

pub returns : goal.returns
returns c = λ names shape held. (let counted = body_counted names shape c.args.self.now held in search (rules, drop_all, counted))
