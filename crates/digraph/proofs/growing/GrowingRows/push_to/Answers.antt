use Rattle.std.proofs.Common.{◌<◌, length, arith}
use Rattle.std.proofs.lemmas.List.{get_or_read, length-map}
use Rattle.digraph.proofs.LinkLemmas.{grows_linked}
use Rattle.digraph.proofs.growing.GrowingRows.push_to.Goals as goal

pub returns : goal.returns
returns g c =
    let within : c.args.n < length c.self.inside.lasts.items = rw (← c.self.view_is, length-map) at c.requires in
    rw (← c.self.view_is, c.in_ok-push.ensures.items)
    (grows_linked c.self.inside.links.items c.self.inside.lasts.items c.args.n
    record { entry = c.args.entry; before = c.index-before.result.now } c.len.result c.self.invariant within
    (get_or_read _ c.args.n _ within c.index-before.ensures 0)
    (omega (arith, c.len.ensures, c.in_ok-push.ensures.len, c.self.inside.links.ok.0)))
