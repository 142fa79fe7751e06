use Rattle.std.proofs.Common.{◌-◌}
use Rattle.tangle_script.specs.Buffer.{bytes}
use Rattle.tangle_script.specs.Script.{conversation}
use Rattle.tangle_script.specs.Turns.{IsMidway}
use Rattle.tangle_script.proofs.running.read_script.Given as goal

abbrev pub invariant-loop-count : goal.invariant-loop-count
invariant-loop-count g l =
    IsMidway g.P.Project.answers
    (conversation (g.P.Project.state l.initial.session l.initial.draft) (g.S.Sink.stream l.initial.sink)
    (g.R.Feed.remaining l.initial.feed) (g.R.Feed.failures l.initial.feed))
    (conversation (g.P.Project.state l.session l.draft) (g.S.Sink.stream l.sink)
    (g.R.Feed.remaining l.feed) (g.R.Feed.failures l.feed))
    (bytes l.buffer) l.count

abbrev pub decreases-loop-count : goal.decreases-loop-count
decreases-loop-count g l = 67108864 - l.count
