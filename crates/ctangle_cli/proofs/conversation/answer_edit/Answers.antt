use Rattle.ctangle_cli.specs.Conversation.{edit_line}
use Rattle.ctangle_cli.proofs.conversation.answer_edit.Goals as goal

pub returns : goal.returns
returns g c = λ request is edit.
    (edit_line c.make_or_hold-answer.result, c.make_or_hold-answer.ensures request is edit, c.write_edit_answer.ensures)
