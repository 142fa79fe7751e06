-- Numbers reach each other exactly if their titles do.
use Rattle.std.proofs.Common.{arith}
use Rattle.std.proofs.Common.{rules}
use Rattle.std.proofs.lemmas.Bool.Decides.{nat_tests}
use Rattle.std.proofs.Common.{◌≡◌, ◌<◌, ◌↔◌, ℕ, length, sym, subst}
use Rattle.digraph.specs.Graph.{Graph, HasUse}
use Rattle.digraph.specs.Reach.{Reaches, here, on, ContainsItself, ReachesCycle}
use Rattle.digraph.specs.Titles.{IsTitled}

module _ {X : Type 0} (graph : Graph) (Uses : X → X → Type 0) (title : ℕ → X) (titled : IsTitled graph Uses title) where
  pub reaches_up : (a b : ℕ) → Reaches (HasUse graph) a b → Reaches Uses (title a) (title b)
  reaches_up a b here = here
  reaches_up a b (on {b = m} u r) = on (titled.sound a m u) (reaches_up m b r)

  -- from a title that is the title of `a`
  pub reaches_down : (t k : X) → Reaches Uses t k → (a : ℕ)
      → a < length graph → title a ≡ t → (b : ℕ) × Reaches (HasUse graph) a b × (b < length graph) × (title b ≡ k)
  reaches_down t k here a h e = (a, here, h, e)
  reaches_down t k (on {b = used} u r) a h e =
      let next = titled.complete a used h (subst (λ s. Uses s used) (sym e) u) in
      let end = reaches_down used k r next.0 next.2 next.3 in
      (end.0, on next.1 end.1, end.2, end.3)

  contains_up : (n : ℕ) → ContainsItself (HasUse graph) n → ContainsItself Uses (title n)
  contains_up n c = (title c.0, titled.sound n c.0 c.1, reaches_up c.0 n c.2)

  contains_down : (n : ℕ) → n < length graph → ContainsItself Uses (title n) → ContainsItself (HasUse graph) n
  contains_down n h c = grind (arith, nat_tests, reaches_down)

  pub contains_alike : (n : ℕ) → n < length graph → ContainsItself (HasUse graph) n ↔ ContainsItself Uses (title n)
  contains_alike n h = (contains_up n, contains_down n h)

  pub cycle_alike : (n : ℕ) → n < length graph → ReachesCycle (HasUse graph) n ↔ ReachesCycle Uses (title n)
  cycle_alike n h = (
    λ c. (title c.0, reaches_up n c.0 c.1, contains_up c.0 c.2),
    search (rules, reaches_down, contains_down),
  )
