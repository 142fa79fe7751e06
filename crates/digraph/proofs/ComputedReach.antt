-- The functions decide what reaches itself, and what reaches a cycle, where each used node is among the nodes.
use Rattle.std.proofs.Common.{rules}
use Rattle.std.proofs.Common.{◌≡◌, ◌⊎◌, ◌&&◌, Bool, true, List, [], ◌∷◌, inl, inr, arith, Contains}
use Rattle.std.specs.Bool.{Decides}
use Rattle.std.proofs.lemmas.Bool.{cases_Bool}
use Rattle.std.proofs.lemmas.List.Folds.{Any-from_list_any, list_any_at}
use Rattle.digraph.specs.Reach.{Reaches, here, on, ContainsItself, ReachesCycle, reaches_by, reaches_cycle_by}
use Rattle.digraph.proofs.ReachLemmas.{reaches_trans}

module _ {X : Type 0} (Uses : X → X → Type 0) (uses : X → X → Bool)
    (decides : (a b : X) → Decides (uses a b) (Uses a b)) where
  -- in one step or more
  abbrev Steps : X → X → Type 0
  Steps a b = (m : X) × Uses a m × Reaches Uses m b

  sound : (nodes : List X) (a b : X) → reaches_by uses nodes a b ≡ true → Steps a b
  sound [] a b e = (b, (decides a b).0 e, here)
  sound (m ∷ nodes) a b e = elim (cases_Bool (reaches_by uses nodes a b)) [
    | inl straight ↦ sound nodes a b straight
    | inr other ↦
        let to = sound nodes a m (grind arith) in
        let from = sound nodes m b (grind arith) in
        (to.0, to.1, reaches_trans Uses to.0 m b to.2 (on from.1 from.2))
  ]

  direct : (nodes : List X) (a b : X) → Uses a b → reaches_by uses nodes a b ≡ true
  direct [] a b u = (decides a b).1 u
  direct (m ∷ nodes) a b u = grind (arith, direct nodes a b u)

  through : (nodes : List X) (a m b : X) → Contains nodes m → reaches_by uses nodes a m ≡ true
      → reaches_by uses nodes m b ≡ true → reaches_by uses nodes a b ≡ true
  through [] a m b c e f = absurd (omega arith)
  through (n ∷ nodes) a m b c e f =
      let first : (n ≡ m) ⊎ Contains nodes m = search rules in
      elim first [
        | inl same ↦ grind arith
        | inr later ↦ grind (arith, through nodes a m b later, through nodes a m n later, through nodes n m b later)
      ]

  module _ (nodes : List X) (among : (a m : X) → Uses a m → Contains nodes m) where
    used : (a m b : X) → Uses a m → Reaches Uses m b → Contains nodes b
    used a m b u here = among a m u
    used a m b u (on {b = n} v r) = used m n b v r

    complete : (a m b : X) → Uses a m → Reaches Uses m b → reaches_by uses nodes a b ≡ true
    complete a m b u here = direct nodes a m u
    complete a m b u (on {b = n} v r) =
        through nodes a m b (among a m u) (direct nodes a m u) (complete m n b v r)

    pub contains_decided : (a : X) → Decides (reaches_by uses nodes a a) (ContainsItself Uses a)
    contains_decided a = (sound nodes a a, λ c. complete a c.0 a c.1 c.2)

    abbrev to_cycle : X → X → Bool
    to_cycle a b = reaches_by uses nodes a b && reaches_by uses nodes b b

    reached : (a b : X) → to_cycle a b ≡ true → ReachesCycle Uses a
    reached a b e =
        let first = sound nodes a b (grind arith) in (b, on first.1 first.2, sound nodes b b (grind arith))

    found : (a b : X) → Steps a b → ContainsItself Uses b → reaches_cycle_by uses nodes a ≡ true
    found a b s c =
        search (rules, used, list_any_at, complete)

    found_from : (a b : X) → Reaches Uses a b → ContainsItself Uses b → reaches_cycle_by uses nodes a ≡ true
    found_from a b here c = found a a c c
    found_from a b (on {b = m} u r) c = found a b (m, u, r) c

    pub cycle_decided : (a : X) → Decides (reaches_cycle_by uses nodes a) (ReachesCycle Uses a)
    cycle_decided a = (
      λ e. let m = Any-from_list_any (to_cycle a) nodes e in reached a m.1 m.4,
      λ c. found_from a c.0 c.1 c.2,
    )
