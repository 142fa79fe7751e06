use Rattle.std.proofs.Common.{◌≡◌, ◌<◌, ◌+◌, ◌↔◌, ℕ, Bool, true, List, [], ◌∷◌, ◌++◌, length, rules, arith}
use Rattle.std.proofs.lemmas.List.{length_push, get_or_push, get_or_append_left}
use Rattle.digraph.specs.Flags.{IsFlagged}
use Rattle.digraph.proofs.cycles.self_containing.Goals as goal

-- one more flag, which says whether `P` holds
flags_more : (P : ℕ → Type 0) (flags : List Bool) (n : ℕ) (flag : Bool)
    → length flags ≡ n → ((k : ℕ) → k < n → IsFlagged flags k ↔ P k) → ((flag ≡ true) ↔ P n)
    → (k : ℕ) → k < n + 1 → IsFlagged (flags ++ flag ∷ []) k ↔ P k
flags_more P flags n flag size old says k h = search (rules, get_or_push, get_or_append_left)

pub loop-n-preserved : goal.loop-n-preserved
loop-n-preserved c = rw c.in_ok-push.ensures.items (record {
  size = omega (arith, length_push c.loop-n.flags.items c.in_ok-flag.flag, c.loop-n.invariant.size);
  flags = flags_more _ _ _ _ c.loop-n.invariant.size c.loop-n.invariant.flags c.in_ok-flag.ensures;
})
