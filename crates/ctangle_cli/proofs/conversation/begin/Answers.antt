use Rattle.std.proofs.Common.{rules}
use Rattle.ctangle_cli.specs.Conversation.IsReply.{IsOpened, IsReported}
use Rattle.ctangle_cli.proofs.conversation.begin.Goals as goal

pub returns-in-Some : goal.returns-in-Some
returns-in-Some g c = λ session. (_, rw c.in-Some.is (search (rules, IsReported)), c.say.ensures)

pub returns-in-None : goal.returns-in-None
returns-in-None g c = λ session.
    (_, rw (c.in-None.is, c.new.ensures.items) (search (rules, IsOpened)), c.say-in-None.ensures)
