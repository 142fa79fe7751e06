use Rattle.std.proofs.Common.{rules}
use Rattle.std.proofs.Common.{◌++◌, codes, inl}
use Rattle.std.specs.Prelude.{decimal}
use Rattle.tangle_session.specs.Headline.{output_at}
use Rattle.ctangle_cli.specs.Conversation.{listed_faults, shown}
use Rattle.ctangle_cli.specs.Conversation.IsReply.{IsReported}
use Rattle.ctangle_cli.proofs.conversation.SessionProjectProject.answer.Goals as goal

pub returns-in-Begin : goal.returns-in-Begin
returns-in-Begin g c = let h = c.begin.ensures c.args.session.now in rw c.in-Begin.is (h.0, inl h.1, h.2)

pub returns-in-Cancel : goal.returns-in-Cancel
returns-in-Cancel g c = let h = c.cancel.ensures c.args.session.now in rw c.in-Cancel.is (h.0, inl h.1, h.2)

pub returns-in-Commit : goal.returns-in-Commit
returns-in-Commit g c = let h = c.commit.ensures in rw c.in-Commit.is (h.0, inl h.1, h.2)

pub returns-in-Show : goal.returns-in-Show
returns-in-Show g c =
    let output = output_at c.args.session.now.files c.args.session.now.roles c.in-Show.file.now in
    rw c.in-Show.is (shown c.in-Show.file.now output, search (rules, IsReported), c.show.ensures)

pub returns-in-Faults : goal.returns-in-Faults
returns-in-Faults g c =
    let output = listed_faults c.faults.result.now in
    rw c.in-Faults.is (output, search (rules, IsReported), c.list_faults.ensures)

pub returns-in-Work : goal.returns-in-Work
returns-in-Work g c =
    let said = codes "work " ++ decimal c.last_work.result ++ codes "\n" in
    rw c.in-Work.is (said, search (rules, IsReported), c.write_work.ensures)

pub returns-in-Quit : goal.returns-in-Quit
returns-in-Quit g c = rw c.in-Quit.is (codes "ok\n", search (rules, IsReported), c.say.ensures)

pub returns-in-BadCommand : goal.returns-in-BadCommand
returns-in-BadCommand g c =
    let output = codes "no BadCommand\n" in
    rw c.in-BadCommand.is (output, search (rules, IsReported), c.say-in-BadCommand.ensures)
