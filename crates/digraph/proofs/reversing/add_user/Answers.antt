use Rattle.std.proofs.Common.{rules}
use Rattle.std.proofs.lemmas.List.{get_or_read}
use Rattle.digraph.proofs.RowLemmas.{grows_more}
use Rattle.digraph.proofs.UserLemmas.{added_more}
use Rattle.digraph.proofs.reversing.add_user.Goals as goal

pub loop-m-preserved : goal.loop-m-preserved
loop-m-preserved c =
    search (rules, get_or_read, grows_more, added_more)
