-- A macro that is kept has no range of a quoted text where its name is.
use Rattle.tangle_c_tokens.proofs.ListLemmas.{all-append}
use Rattle.std.proofs.Common.{arith}
use Rattle.std.proofs.Common.{rules}
use Rattle.std.proofs.lemmas.Bool.Decides.{nat_tests}
use Rattle.std.proofs.Common.{◌≡◌, ℕ, Bool, true, false, List, [], ◌∷◌, ◌++◌, refl, None}
use Rattle.std.specs.List.{AllByRecursion}
use Rattle.tangle_lexer.specs.declared.tokens.Token.{Token}
use Rattle.tangle_lexer.specs.declared.tokens.Token.TheVariants as token
use Rattle.tangle_scan.specs.Rules.{with_name_space, has_join, map_runs, left_of_run}
use Rattle.tangle_scan.specs.Rules.{without_backslashes, macro_blanks, unmarked_items, macro_items, is_macro}
use Rattle.tangle_c_tokens.specs.Kinds.{is_range}
use Rattle.tangle_c_tokens.proofs.kind_lemmas.RuleTexts.{range-by, name_is_range, front_tokens}

-- the first token other than white space and line ends is a range
abbrev first_is_range : List Token → Bool
first_is_range [] = false
first_is_range (token.White ∷ ts) = first_is_range ts
first_is_range (token.LineEnd line ∷ ts) = first_is_range ts
first_is_range (t ∷ ts) = is_range t

abbrev is_name_gap : Token → Bool
is_name_gap token.White = true
is_name_gap (token.LineEnd line) = true
is_name_gap token.Join = true
is_name_gap _ = false

abbrev AreNameGaps : List Token → Type 0
AreNameGaps run = AllByRecursion (λ t. is_name_gap t ≡ true) run

gaps-last : (run : List Token) (t : Token) → AreNameGaps run → is_name_gap t ≡ true → AreNameGaps (run ++ t ∷ [])
gaps-last run t all gap = all-append (λ t. is_name_gap t ≡ true) run (t ∷ []) all (gap, tt)

after-gaps : (run : List Token) (t : Token) (ts : List Token) → AreNameGaps run → has_join run ≡ false → is_range t
    ≡ true → first_is_range (run ++ t ∷ ts) ≡ true
after-gaps [] t ts gaps none h = range-by (λ u. first_is_range (u ∷ ts) ≡ true) (λ s. refl) (λ n. refl) t h
after-gaps (u ∷ run) t ts gaps none h = search (rules, after-gaps run t ts)

module _ (texts : List (List ℕ)) where
  name-left : (ts run : List Token) → AreNameGaps run → name_is_range ts ≡ true
      → first_is_range (map_runs left_of_run run (with_name_space texts ts)) ≡ true
  name-left [] run gaps h = cc
  name-left (token.White ∷ ts) run gaps h = grind (arith, nat_tests, name-left ts, gaps-last run token.White gaps)
  name-left (token.LineEnd line ∷ ts) run gaps h = grind (arith, nat_tests, name-left ts, gaps-last run)
  name-left (token.Join ∷ ts) run gaps h = name-left ts (run ++ token.Join ∷ []) (gaps-last run token.Join gaps refl) h
  name-left (t ∷ []) run gaps h = search (rules, after-gaps)
  name-left (t ∷ f ∷ ts) run gaps h = search (rules, after-gaps)

  backslashes-left : (ts : List Token) → first_is_range ts ≡ true → first_is_range (without_backslashes texts ts) ≡ true
  backslashes-left [] h = cc
  backslashes-left (t ∷ ts) h = search (rules, backslashes-left ts)

  no-macro : (white : Bool) (ts : List Token) → first_is_range ts ≡ true
      → is_macro texts (unmarked_items (macro_blanks texts true None white ts)) ≡ false
  no-macro white [] h = cc
  no-macro white (t ∷ ts) h = search (rules, no-macro true ts)

  pub kept-name : (ts : List Token) → is_macro texts (macro_items texts ts) ≡ true
      → name_is_range (front_tokens texts ts) ≡ false
  kept-name ts kept = search (rules, front_tokens, no-macro, backslashes-left, name-left)
