-- One pass over all nodes, which may change a state. Passes are repeated until one changes nothing.
use Rattle.std.proofs.lemmas.Bool.Decides.{nat_tests}
use Rattle.std.proofs.Common.{◌≡◌, ◌<◌, ◌≤◌, ◌+◌, ◌||◌, ℕ, Bool, true, false, arith, refl}

-- The state after each node below `i` was tried once: `left` is the number of nodes that are left, and was `before`.
-- If no node changed the state, `Tried` holds of each of them.
pub record Passed {S : Type 0} (SoFar : S → Type 0) (Tried : S → ℕ → Type 0) (left : S → ℕ)
    (before : ℕ) (state : S) (any : Bool) (i : ℕ) : Type 0 where
  pub so_far : SoFar state
  pub fewer : left state ≤ before
  pub more : any ≡ true → left state < before
  pub tried : any ≡ false → (k : ℕ) → k < i → Tried state k

-- the next node changed the state, or it was tried and left the state as it is
pub passed_next : {S : Type 0} {SoFar : S → Type 0} {Tried : S → ℕ → Type 0} {left : S → ℕ} {before : ℕ}
    {old new : S} {any now : Bool} {i : ℕ} → Passed SoFar Tried left before old any i → SoFar new
    → (now ≡ true → left new < left old) → (now ≡ false → new ≡ old) → (now ≡ false → Tried old i)
    → Passed SoFar Tried left before new (any || now) (i + 1)
passed_next {left = left} {now = true} p so_far less same here = record {
  so_far = so_far;
  fewer = let fewer = less refl in omega arith;
  more = λ e. (let fewer = less refl in omega arith);
  tried = grind (arith, nat_tests);
}
passed_next {left = left} {now = false} p so_far less same here = rw (same refl) (record {
  so_far = p.so_far;
  fewer = p.fewer;
  more = grind (arith, nat_tests, p.more);
  tried = λ e k h. grind (arith, nat_tests, p.tried, here refl);
})
