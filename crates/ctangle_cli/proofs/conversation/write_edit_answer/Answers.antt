use Rattle.ctangle_cli.proofs.conversation.write_edit_answer.Goals as goal

pub returns-in-Err : goal.returns-in-Err
returns-in-Err g c = rw (c.in-Err.is, ← c.name_of.ensures) c.write_refusal.ensures
