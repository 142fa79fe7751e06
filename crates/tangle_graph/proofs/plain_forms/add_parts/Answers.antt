use Rattle.std.proofs.Common.{rules}
use Rattle.std.proofs.Common.{append_assoc}
use Rattle.tangle_graph.proofs.PlainFormLemmas.{parts_more}
use Rattle.tangle_graph.proofs.plain_forms.add_parts.Goals as goal

pub loop-i-preserved : goal.loop-i-preserved
loop-i-preserved c = search (rules, parts_more, append_assoc)
