use Rattle.std.proofs.Common.{◌≡◌, [], ◌∷◌, ◌++◌, vec_len, IfSome, IfNone}
use Rattle.tangle_lines.specs.Waiting.{stacked}
use Rattle.tangle_lines.proofs.waiting.Waiting.take.Given as goal

abbrev pub invariant-loop-line : goal.invariant-loop-line
invariant-loop-line l = record {
  some : IfSome l.line (λ w. l.fn.self ≡ w ∷ l.self-inside.top ++ stacked l.self-inside.below.items);
  none : IfNone l.line ((l.fn.self ≡ stacked l.self-inside.below.items) × (l.self-inside.top ≡ []));
}

abbrev pub decreases-loop-line : goal.decreases-loop-line
decreases-loop-line l = vec_len l.self-inside.below
