use Rattle.ctangle_cli.proofs.conversation.write_list_answer.Goals as goal

pub returns-in-Err : goal.returns-in-Err
returns-in-Err g c =
    rw (c.in-Err.is, ← c.name_of.ensures, ← c.edit_number.ensures, ← c.format.ensures.text, ← c.as_bytes-number.ensures.value)
    c.say-in-Err.ensures
