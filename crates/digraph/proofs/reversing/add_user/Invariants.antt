use Rattle.std.proofs.Common.{[], ◌∷◌, cond, eqb, take}
use Rattle.std.specs.List.{list_any}
use Rattle.digraph.specs.Rows.{GrowsBy}
use Rattle.digraph.proofs.reversing.add_user.Given as goal

abbrev pub invariant-loop-m : goal.invariant-loop-m
invariant-loop-m l =
    GrowsBy (λ m. cond (list_any (λ x. eqb x m) (take l.m-index l.row)) (l.user ∷ []) []) l.fn.users l.users
