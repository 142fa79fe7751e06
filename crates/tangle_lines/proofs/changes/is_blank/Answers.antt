use Rattle.tangle_lines.proofs.ByteSetLemmas.{blank-found}
use Rattle.tangle_lines.proofs.changes.is_blank.Goals as goal

pub returns : goal.returns
returns c =
    blank-found c.args.line.now c.find_not_byteset.result c.is_none.result c.find_not_byteset.ensures c.is_none.ensures
