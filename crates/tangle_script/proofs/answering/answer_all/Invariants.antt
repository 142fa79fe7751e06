use Rattle.std.proofs.Common.{length}
use Rattle.tangle_script.specs.Script.{exchange}
use Rattle.tangle_script.proofs.ConversationLemmas.{IsUnder}
use Rattle.tangle_script.proofs.answering.answer_all.Given as goal

abbrev pub invariant-loop-found : goal.invariant-loop-found
invariant-loop-found g l =
    IsUnder g.P.Project.answers
    (exchange (g.P.Project.state l.initial.session l.initial.draft) (g.S.Sink.stream l.initial.sink))
    (exchange (g.P.Project.state l.session l.draft) (g.S.Sink.stream l.sink)) l.bytes l.rest

abbrev pub decreases-loop-found : goal.decreases-loop-found
decreases-loop-found g l = length l.rest
