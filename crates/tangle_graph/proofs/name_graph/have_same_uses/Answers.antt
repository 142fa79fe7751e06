use Rattle.std.proofs.Common.{rules}
use Rattle.std.proofs.Common.{◌≡◌, ◌∙◌, ◌<◌, ◌++◌, ◌∷◌, [], arith, length, refl, sym}
use Rattle.std.proofs.lemmas.Bool.Decides.{Decides-eqb}
use Rattle.std.proofs.lemmas.Slice.Eq.{slice_eq-Decides}
use Rattle.tangle_bodies.specs.NodeBodies.{body_uses}
use Rattle.tangle_graph.proofs.NameGraphLemmas.{uses_more}
use Rattle.tangle_graph.proofs.name_graph.have_same_uses.Goals as goal

pub loop-n-preserved : goal.loop-n-preserved
loop-n-preserved c =
    let n = c.loop-n.n in
    let low : n < length c.args.before.now = omega arith in
    let same : body_uses c.index-before-n.result.value ≡ body_uses c.index-bodies-n.result.value =
    (let decided = slice_eq-Decides Decides-eqb c.uses.result.now c.uses-in-loop-n.result.now _ refl in search (rules, decided)) in
    uses_more c.args.before.now n c.index-before-n.result low c.index-before-n.is
    ∙ (λ i. c.loop-n.invariant i ++ same i ∷ [])
    ∙ sym (uses_more c.args.bodies.now n c.index-bodies-n.result c.loop-n-test.true c.index-bodies-n.is)
