use Rattle.std.proofs.Common.{rules}
use Rattle.tangle_bodies.proofs.TagLemmas.{bodies_decide}
use Rattle.tangle_graph.proofs.ShapeLemmas.{has_piece_in, without_piece}
use Rattle.tangle_graph.proofs.shapes.same_shape.Goals as goal

pub returns-in-Some-body_in : goal.returns-in-Some-body_in
returns-in-Some-body_in c = λ old_shapes new_shapes old_is new_is. (
    let decided = bodies_decide c.args.old.now.names c.args.new.now.names _ _ _ _
    (c.in-Some.ensures.shape old_shapes old_is) (c.in-Some-body_in.ensures.shape new_shapes new_is) in
    let found = rw (c.names.ensures, c.names-in-Some-body_in.ensures) at c.has_shape_of.ensures in
    (λ e. decided.0 (found.0 e), λ same. found.1 (decided.1 same)))

pub returns-in-None-body_in : goal.returns-in-None-body_in
returns-in-None-body_in c = λ old_shapes new_shapes old_is new_is.
    rw (c.in-None-body_in.ensures.shape new_shapes new_is)
    (search (rules, without_piece, has_piece_in))

pub returns-in-None : goal.returns-in-None
returns-in-None c = λ old_shapes new_shapes old_is new_is.
    rw (c.in-None.ensures.shape old_shapes old_is) (search (rules, without_piece, has_piece_in))
