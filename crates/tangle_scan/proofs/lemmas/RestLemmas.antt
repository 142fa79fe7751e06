-- The first of some tokens, and the rest, as a loop over them takes them.
use Rattle.std.proofs.Common.{arith}
use Rattle.std.proofs.lemmas.Grind.{common_steps}
use Rattle.std.proofs.Common.{◌≡◌, ◌≤◌, ◌<◌, ℕ, ◌+◌, ◌-◌, suc, List, [], ◌∷◌, length, take, drop, get_or}
use Rattle.std.specs.List.{All}
use Rattle.tangle_lexer.specs.declared.tokens.Token.{Token}
use Rattle.tangle_lexer.specs.declared.tokens.Token.TheVariants as token

abbrev pub first : List Token → Token
first ts = get_or ts 0 token.Section

abbrev pub rest : List Token → List Token
rest ts = take (length ts - 1) (drop 1 ts)

pub split : (ts : List Token) → 1 ≤ length ts → first ts ∷ rest ts ≡ ts
split ts h = grind (arith, common_steps)

pub all-rest : (P : Token → Type 0) (ts : List Token) → 1 ≤ length ts → All P ts → All P (rest ts)
all-rest P [] h all = absurd (omega arith)
all-rest P (t ∷ ts) h all =
    let same : rest (t ∷ ts) ≡ ts = grind (arith, common_steps) in
    rw same (λ k d low. all (suc k) d (omega arith))

pub split-at : (ts : List Token) (i : ℕ) → i < length ts → get_or ts i token.Section ∷ drop (i + 1) ts ≡ drop i ts
split-at ts i h = grind (arith, common_steps)
