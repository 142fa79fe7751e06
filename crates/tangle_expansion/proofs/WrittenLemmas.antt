-- The bytes of lists of symbols.
use Rattle.std.proofs.lemmas.Bool.Decides.{nat_tests}
use Rattle.std.proofs.Common.{◌*◌, arith, length-append, ◌≡◌, ℕ, ◌≤◌, List, [], ◌∷◌, ◌++◌, map, length, refl, ap}
use Rattle.std.specs.List.{AllByRecursion}
use Rattle.tangle_bodies.specs.Flat.{Symbol, Byte}
use Rattle.tangle_expansion.specs.Numbers.{NumbersRead, symbol_bytes, expansion_bytes}

pub bytes_then : (numbers : NumbersRead) (bytes : List ℕ) (rest : List Symbol)
    → expansion_bytes numbers (map Byte bytes ++ rest) ≡ bytes ++ expansion_bytes numbers rest
bytes_then numbers [] rest = refl
bytes_then numbers (b ∷ bytes) rest = ap (λ t. b ∷ t) (bytes_then numbers bytes rest)

-- if at most `b` bytes are written for each symbol, at most `b` times the length are written for the list
pub written-short : (numbers : NumbersRead) (b : ℕ) (symbols : List Symbol)
    → AllByRecursion (λ p. length (symbol_bytes numbers p) ≤ b) symbols
    → length (expansion_bytes numbers symbols) ≤ length symbols * b
written-short numbers b [] h = omega arith
written-short numbers b (p ∷ symbols) h = grind (arith, nat_tests, written-short numbers b symbols h.1, length-append)
