use Rattle.std.proofs.Common.{rules}
use Rattle.std.proofs.Common.{◌≡◌, ap, subst, sym}
use Rattle.std.proofs.lemmas.Result.{IfOk-weaker}
use Rattle.std.specs.Prelude.{Some}
use Rattle.tangle_expansion.specs.Kept.{kept_at}
use Rattle.tangle_expansion.specs.Limits.{levels}
use Rattle.tangle_expansion.proofs.FilledLemmas.{body_gives}
use Rattle.tangle_graph.specs.Keeping.{IsRight}
use Rattle.tangle_graph.specs.Stores.{body_at}
use Rattle.tangle_graph.proofs.ExpandLemmas.{expandable_at}
use Rattle.tangle_graph.proofs.BodyLemmas.{used_node}
use Rattle.tangle_graph.proofs.StoredBodies.{had, in_store}
use Rattle.tangle_graph.proofs.store.Store.expand.Goals as goal

pub returns-clause-expanded : goal.returns-clause-expanded
returns-clause-expanded c =
    let at = in_store c.self.inside c.args.self.now c.args.node c.self.view_is c.self.invariant c.requires.expandable in
    let read = rw c.deref-bodies.ensures at c.index.ensures in
    let has : body_at c.args.self.now c.args.node ≡ Some c.index.result.now.value = search (rules, had) in
    IfOk-weaker c.expand.result _ _ (λ e h. rw has (ap Some (sym h))) (rw c.deref.ensures at c.expand.ensures.right)

pub returns-clause-right : goal.returns-clause-right
returns-clause-right c = λ shapes is keeps.
    let node = c.args.node in
    let store = c.args.self.now in
    let body = c.index.result.now.value in
    let at = in_store c.self.inside store node c.self.view_is c.self.invariant c.requires.expandable in
    let read = rw c.deref-bodies.ensures at c.index.ensures in
    let has : body_at store node ≡ Some body = search (rules, had) in
    let own = is.bodies.each node body has in
    let shallow = ((expandable_at shapes store is node at).0 c.requires.expandable).shallow in
    IfOk-weaker c.expand.result _ _ (λ e h. subst (IsRight shapes store node) (sym h) (body_gives store.names shapes levels _ body
    (kept_at c.args.kept.now) own.shape shallow
    (λ used has. keeps used (search (rules, used_node))))) (rw c.deref.ensures at c.expand.ensures.right)
