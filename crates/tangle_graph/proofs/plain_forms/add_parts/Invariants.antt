use Rattle.std.proofs.Common.{◌≡◌, ◌++◌, map, take}
use Rattle.std.specs.List.{join_with_byte}
use Rattle.tangle_graph.specs.PlainForms.{slash}
use Rattle.tangle_graph.proofs.plain_forms.add_parts.Given as goal

abbrev pub invariant-loop-i : goal.invariant-loop-i
invariant-loop-i l =
    l.form.items ≡ l.fn.form.items ++ join_with_byte slash (map (λ part. part.now) (take l.i l.parts))
