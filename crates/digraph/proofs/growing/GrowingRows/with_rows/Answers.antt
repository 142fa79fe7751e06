use Rattle.std.proofs.Common.{arith}
use Rattle.digraph.proofs.LinkLemmas.{no_rows}
use Rattle.digraph.proofs.growing.GrowingRows.with_rows.Goals as goal

pub returns : goal.returns
returns g c = rw c.new.ensures.items (no_rows c.in_ok-lasts.lasts.items _
    (omega (arith, c.in_ok-lasts.ensures.len, c.in_ok-lasts.lasts.ok.0)))
