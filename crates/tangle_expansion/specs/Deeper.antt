-- An expansion is deeper than each one that it shares.
use Rattle.std.specs.Prelude.{ℕ, ◌+◌, ◌≤◌, List, [], ◌∷◌, Option, None, Some}
use Rattle.std.proofs.Common.{arith}
use denote.Param.Weighed.{most}
use Rattle.tangle_expansion.specs.Expanded.{Expanded, shared_depth, shared_of}
use Rattle.tangle_expansion.specs.ExpansionView.{expansion_read}
use Rattle.tangle_expansion.specs.declared.expansion.Expansion.TheInside.{Inside}
use Rattle.tangle_expansion.specs.declared.expansion.Expansion.TheDeep.{deep-Expansion}
use Rattle.tangle_expansion.specs.declared.expansion.Expansion.TheShapes.{weighed-SharedExpansion-used-at-1}

-- the weight of what is shared
abbrev weight_of : Option Expanded → ℕ
weight_of = weighed-SharedExpansion-used-at-1.weight Expanded (λ e. shared_depth e.used + 1)

all_within : (used : List (Option Expanded)) → most weight_of used ≤ shared_depth (shared_of used)
all_within [] = omega arith
all_within (None ∷ used) = omega (arith, all_within used)
all_within (Some e ∷ used) = omega (arith, all_within used)

pub is_deeper : (e : Inside) → deep-Expansion e ≤ shared_depth (expansion_read e).used
is_deeper e = omega (arith, all_within e.shared.value.used.items)
