-- What holds of each byte of a line, and of its place, holds of the first byte of each token.
use Rattle.std.proofs.Common.{rules}
use Rattle.std.proofs.Common.{◌≡◌, ℕ, true, List, [], ◌∷◌, ◌++◌, drop, length, sym, subst}
use Rattle.std.specs.List.{AllByRecursion, AllZip, list_all, concat}
use Rattle.std.proofs.lemmas.Bool.{false≢true}
use Rattle.std.proofs.lemmas.List.Elements.{All-filter, All-from_recursion, recursion_from_All}
use Rattle.c_tokens.specs.Grammar.{is_token}
use Rattle.c_tokens.specs.Reading.{spliced, elements}
use Rattle.c_tokens.specs.Borders.{has_bytes}
use Rattle.c_lines.specs.Counting.{Place, PlacedElement, next_place, place_after, places, with_places, tokens_at}
use Rattle.c_tokens.proofs.LongestLemmas.{elements_all}
use Rattle.c_lines.proofs.LineLemmas.{elements-some}

-- the first byte of an element
abbrev pub Begins : ℕ → List ℕ → Type 0
Begins b [] = ⊥
Begins b (c ∷ e) = c ≡ b

module _ (Q : Place → ℕ → Type 0) where
  -- an element with this first byte
  abbrev pub IsFirst : PlacedElement → Type 0
  IsFirst e = (b : ℕ) × Begins b e.text × Q e.place b

  zip-drop : (e : List ℕ) (ps : List Place) (bs : List ℕ) → AllZip Q ps (e ++ bs) → AllZip Q (drop (length e) ps) bs
  zip-drop [] ps bs h = h
  zip-drop (b ∷ e) ps bs h = search (rules, zip-drop e)

  firsts : (ps : List Place) (es : List (List ℕ)) → list_all has_bytes es ≡ true → AllZip Q ps (concat es)
      → AllByRecursion IsFirst (with_places ps es)
  firsts ps [] some h = tt
  firsts ps ([] ∷ es) some h = absurd (false≢true some)
  firsts [] ((b ∷ e) ∷ es) some h = absurd h
  firsts (p ∷ ps) ((b ∷ e) ∷ es) some h = search (rules, firsts (drop (length e) ps) es, zip-drop e)

  -- what holds of each byte of a line holds of the first one of each token
  pub tokens-first : (p : Place) (l : List ℕ) → AllZip Q (places p l) (spliced l) → AllByRecursion IsFirst
      (tokens_at p l)
  tokens-first p l h =
      recursion_from_All IsFirst _ (All-filter (λ e. is_token e.text) IsFirst _ (All-from_recursion IsFirst _
      (firsts (places p l) (elements l) (elements-some 0 (spliced l))
      (subst (AllZip Q (places p l)) (sym (elements_all 0 (spliced l))) h))))

  -- a line and one byte more
  pub line-more : (p : Place) (l : List ℕ) (b : ℕ) → AllZip Q (places p l) (spliced l) → Q (place_after p l) b
      → AllZip Q (places p (l ++ b ∷ [])) (spliced (l ++ b ∷ []))
  line-more p [] b all next = (next, tt)
  line-more p (x ∷ []) b all next = search rules
  line-more p (x ∷ y ∷ l) b all next =
      search (rules, line-more (next_place (next_place p x) y) l b, line-more (next_place p x) (y ∷ l) b)
