use Rattle.std.proofs.Common.{rules}
use Rattle.std.proofs.Common.{◌≡◌, ◌≤◌, true, [], ◌∷◌, arith, min, refl}
use Rattle.tangle_expansion.specs.Limits.{levels, weight_cap}
use Rattle.tangle_bodies.specs.Flat.{own_weight}
use Rattle.tangle_bodies.specs.Shapes.{Shape}
use Rattle.tangle_graph.specs.Outputs.{shape_has_piece}
use Rattle.tangle_graph.proofs.StepLemmas.{measure_with, measure_without}
use Rattle.tangle_graph.proofs.measures.measure_of_node.Goals as goal

weightless : (s : Shape) → 0 ≡ min weight_cap (own_weight s) → s ≡ []
unfolding weight_cap
weightless [] e = refl
weightless (x ∷ s) e = absurd (omega arith)

weighty : (s : Shape) → 1 ≤ min weight_cap (own_weight s) → shape_has_piece s ≡ true
unfolding weight_cap
weighty [] h = absurd (omega arith)
weighty (x ∷ s) h = refl

pub returns-then-own-eq0 : goal.returns-then-own-eq0
unfolding weight_cap
returns-then-own-eq0 c = λ shapes names title held known. (
    let counted = c.symbol_count.ensures names (shapes title) held weight_cap in
    search (rules, measure_without, weightless, counted))

pub returns : goal.returns
unfolding weight_cap levels
returns c = λ shapes names title held known.
    let counted : c.min-own.result ≡ min weight_cap (own_weight (shapes title)) =
    omega (arith, c.symbol_count.ensures names (shapes title) held weight_cap (omega arith)) in
    measure_with shapes title names c.args.measures.now c.args.body.now held known _ _ _ _
    (weighty (shapes title) (omega (arith, counted))) counted (search rules) (search rules)
    c.is_within.ensures
