-- Texts that take out no line feed after them.
use Rattle.std.proofs.Common.{rules}
use Rattle.tangle_c_tokens.proofs.TextLemmas.{is_kept}
use Rattle.std.proofs.Common.{◌≡◌, ℕ, true, List, [], ◌∷◌, refl}
use Rattle.std.proofs.Common.{◌++◌, ap, sym, subst, ◌∙◌, append-nil}
use Rattle.std.specs.Prelude.{◌==◌, ◌&&◌, not}
use Rattle.c_tokens.specs.Bytes.{backslash}
use Rattle.tangle_expansion.specs.Numbers.{closing_bytes}
use Rattle.c_tokens.proofs.ElementLemmas.{last-append}

abbrev pub KeepsFeed : List ℕ → Type 0
KeepsFeed t = is_kept t ≡ true

-- the last byte decides
pub kept-last : (a : List ℕ) (c : ℕ) (b : List ℕ) → is_kept (a ++ c ∷ b) ≡ is_kept (c ∷ b)
kept-last [] c b = refl
kept-last (x ∷ a) c b = ap (λ d. not (d == backslash && true)) (last-append x a c b)

pub keeps-last : (a b : List ℕ) (c : ℕ) → KeepsFeed (c ∷ b) → KeepsFeed (a ++ c ∷ b)
keeps-last a b c of_b = kept-last a c b ∙ of_b

pub keeps-more : (a b : List ℕ) → KeepsFeed a → KeepsFeed b → KeepsFeed (a ++ b)
keeps-more a [] of_a of_b = subst KeepsFeed (sym (append-nil a)) of_a
keeps-more a (c ∷ b) of_a of_b = keeps-last a b c of_b

-- a text and the closing of a piece
pub closing-keeps : (a : List ℕ) (section : ℕ) → KeepsFeed (a ++ closing_bytes section)
closing-keeps a section = search (rules, keeps-last, last-append)
