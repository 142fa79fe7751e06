use Rattle.std.proofs.Common.{◌∙◌, inl, inr, rules}
use Rattle.digraph.specs.Roots.{FromRoots}
use Rattle.digraph.specs.Reach.{here, on}
use Rattle.digraph.proofs.ReachLemmas.{only_set, here_at, reaches_trans}
use Rattle.digraph.proofs.roots.flag_from_root.Goals as goal
use Rattle.digraph.proofs.roots.flag_from_root.Goals.{then-root-n, else-root-n}

pub returns-then-flags-n : goal.returns-then-flags-n
returns-then-flags-n c =
    let so_far : FromRoots c.args.uses.now c.args.roots.now c.if-root-n.flags = elim c.if-root-n.branch [
      | then-root-n w ↦ rw w.flags-is (search (rules, only_set, here_at))
      | else-root-n w ↦ rw w.flags-is c.requires.flags
    ] in
    record {
      size = c.flag_row.auto.flags ∙ so_far.size;
      sound = λ m f. elim (rw c.row.ensures at (c.flag_row.ensures m f)) [
        | inl old ↦ so_far.sound m old
        | inr new ↦ rw new.1 (reaches_trans _ _ c.args.n m (so_far.sound c.args.n c.if-flags-n.true) (on new.0 here))
      ];
    }
