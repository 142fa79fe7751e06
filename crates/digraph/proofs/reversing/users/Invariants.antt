use Rattle.std.proofs.Common.{length}
use Rattle.digraph.specs.Rows.{IsRowsOf}
use Rattle.digraph.specs.Users.{users_of}
use Rattle.digraph.proofs.reversing.users.Given as goal

abbrev pub invariant-loop-n : goal.invariant-loop-n
invariant-loop-n l = IsRowsOf (length l.uses) (users_of l.uses l.n) l.users
