-- Reaching along the uses of any relation: of numbers, or of what the numbers represent.
use Rattle.std.specs.Prelude.{ℕ, zero, suc, Bool, ◌||◌, ◌&&◌, List, [], ◌∷◌}
use Rattle.std.specs.List.{list_any}

-- the first node reaches the second in any number of steps; in no step each node reaches itself
pub data Reaches {X : Type 0} (Uses : X → X → Type 0) : X → X → Type 0 where
  here : {a : X} → Reaches Uses a a
  on : {a b c : X} → Uses a b → Reaches Uses b c → Reaches Uses a c

-- the node reaches itself in one step or more
abbrev pub ContainsItself : {X : Type 0} → (X → X → Type 0) → X → Type 0
ContainsItself {X} Uses a = (b : X) × Uses a b × Reaches Uses b a

-- the node reaches one that contains itself
abbrev pub ReachesCycle : {X : Type 0} → (X → X → Type 0) → X → Type 0
ReachesCycle {X} Uses a = (b : X) × Reaches Uses a b × ContainsItself Uses b

-- from the node there is a path of this number of steps
abbrev pub HasPath : {X : Type 0} → (X → X → Type 0) → ℕ → X → Type 0
HasPath Uses zero a = Unit {0}
HasPath {X} Uses (suc steps) a = (b : X) × Uses a b × HasPath Uses steps b

-- The same as functions, where `uses` says of two nodes whether the first uses the second.

-- whether the first node reaches the second in one step or more, by way of these nodes alone
abbrev pub reaches_by : {X : Type 0} → (X → X → Bool) → List X → X → X → Bool
reaches_by uses [] a b = uses a b
reaches_by uses (between ∷ others) a b =
    reaches_by uses others a b
    || (reaches_by uses others a between && reaches_by uses others between b)

-- whether the node reaches one of these nodes that contains itself, by way of these nodes alone
abbrev pub reaches_cycle_by : {X : Type 0} → (X → X → Bool) → List X → X → Bool
reaches_cycle_by uses nodes a =
    list_any (λ b. reaches_by uses nodes a b && reaches_by uses nodes b b) nodes
