-- The rules that make items of tokens leave texts as they are.
use Rattle.tangle_c_tokens.proofs.ListLemmas.{all-append}
use Rattle.std.proofs.Common.{rules}
use Rattle.std.proofs.Common.{arith}
use Rattle.std.proofs.Common.{◌≡◌, ℕ, Bool, true, false, List, [], ◌∷◌, ◌++◌, refl, sym, subst, map}
use Rattle.std.specs.List.{AllByRecursion, list_all}
use Rattle.std.proofs.lemmas.Bool.{cond_both}
use Rattle.tangle_text.specs.declared.spans.Span.{Span}
use Rattle.tangle_lexer.specs.declared.tokens.Token.{Token}
use Rattle.tangle_lexer.specs.declared.tokens.Token.TheVariants as token
use Rattle.tangle_lexer.specs.declared.tokens.SpanKind.TheVariants as span_kind
use Rattle.tangle_scan.specs.Rules.{without_faults, white_inner_end, clean_tokens, would_merge, with_spaces}
use Rattle.tangle_scan.specs.Rules.{may_follow_name}
use Rattle.tangle_scan.specs.Rules.{with_space_after, with_name_space, is_gap, map_runs, left_of_run}
use Rattle.tangle_scan.specs.Rules.{is_line_backslash, without_backslashes, without_front_gaps}
use Rattle.tangle_scan.specs.Rules.{part_tokens}
use Rattle.tangle_scan.specs.Rules.{macro_tokens}
use Rattle.tangle_lexer.specs.LinesOfParts.{body}
use Rattle.tangle_c_tokens.specs.Kinds.{HasItsKind, is_range, AreTexts}
use Rattle.tangle_c_tokens.proofs.kind_lemmas.Texts.{texts-none, texts-alone, texts-part, texts-by, texts-append}
use Rattle.std.proofs.lemmas.Bool.Decides.{nat_tests}

-- what is true of ranges and breaks
pub range-by : (P : Token → Type 0) → ((s : Span) → P (token.Span span_kind.Quoted s)) → ((n : ℕ) → P (token.QuoteBreak n))
    → (t : Token) → is_range t ≡ true → P t
range-by P range break t h = search rules

-- `f` keeps each range
abbrev KeepsRanges : (List Token → List Token) → Type 0
KeepsRanges f = (t : Token) (ts : List Token) → is_range t ≡ true → f (t ∷ ts) ≡ t ∷ f ts

keeps-part : (f : List Token → List Token) → KeepsRanges f → (part ts : List Token) → list_all is_range part ≡ true
    → f (part ++ ts) ≡ part ++ f ts
keeps-part f keeps [] ts h = refl
keeps-part f keeps (t ∷ part) ts h = grind (arith, nat_tests, keeps-part f keeps part ts)

-- a range is where the name of a macro should be
abbrev pub name_is_range : List Token → Bool
name_is_range [] = false
name_is_range (token.White ∷ ts) = name_is_range ts
name_is_range (token.LineEnd line ∷ ts) = name_is_range ts
name_is_range (token.Join ∷ ts) = name_is_range ts
name_is_range (t ∷ ts) = is_range t

module _ (texts : List (List ℕ)) where
  -- `f` makes of each other token and of texts after it texts
  edited-texts : (f : List Token → List Token) → AreTexts texts (f []) → KeepsRanges f
      → ((t : Token) (ts : List Token) → is_range t ≡ false → HasItsKind texts t → AreTexts texts (f ts)
      → AreTexts texts (f (t ∷ ts))) → (ts : List Token) → AreTexts texts ts → AreTexts texts (f ts)
  edited-texts f none keeps others =
      texts-by texts (λ ts. AreTexts texts (f ts)) none (λ t ts alone kind all made. others t ts alone kind made)
      (λ t part ts quoted all made.
      subst (AreTexts texts) (sym (keeps-part f keeps (t ∷ part) ts quoted.ranges)) (search (rules, texts-part)))

  white : (ts : List Token) → AreTexts texts ts → AreTexts texts (token.White ∷ ts)
  white ts all = texts-alone texts token.White ts refl tt all

  -- the tokens before the next head
  pub body-texts : (ts : List Token) → AreTexts texts ts → AreTexts texts (body ts)
  body-texts = edited-texts body (texts-none texts) (search rules)
      (λ t ts alone kind made. search (rules, texts-none, texts-alone texts t (body ts) alone kind made))

  inner-texts : (ts : List Token) → AreTexts texts ts → AreTexts texts (map white_inner_end ts)
  inner-texts = edited-texts (map white_inner_end) (texts-none texts) (search rules)
      (λ t ts alone kind made. search (rules, texts-alone))

  spaces-texts : (ts : List Token) → AreTexts texts ts → AreTexts texts (with_spaces texts ts)
  spaces-texts = edited-texts (with_spaces texts) (texts-none texts) (search rules) one
    where
      one : (t : Token) (ts : List Token) → is_range t ≡ false → HasItsKind texts t
          → AreTexts texts (with_spaces texts ts) → AreTexts texts (with_spaces texts (t ∷ ts))
      one t [] alone kind made = texts-alone texts t [] alone kind made
      one t (f ∷ ts) alone kind made =
          texts-alone texts t _ alone kind
          (cond_both (would_merge texts t f) (token.White ∷ []) []
          (λ ws. AreTexts texts (ws ++ with_spaces texts (f ∷ ts))) (λ e. white _ made) (λ e. made))

  pub backslashes-texts : (ts : List Token) → AreTexts texts ts → AreTexts texts (without_backslashes texts ts)
  backslashes-texts = edited-texts (without_backslashes texts) (texts-none texts) (search rules)
      (λ t ts alone kind made.
      cond_both (is_line_backslash texts t ts) [] (t ∷ []) (λ us. AreTexts texts (us ++ without_backslashes texts ts))
      (λ e. made) (λ e. texts-alone texts t (without_backslashes texts ts) alone kind made))

  -- joins

  abbrev AreAlone : List Token → Type 0
  AreAlone run = AllByRecursion (λ t. (is_range t ≡ false) × HasItsKind texts t) run

  alone-texts : (run : List Token) → AreAlone run → AreTexts texts run
  alone-texts [] all = texts-none texts
  alone-texts (t ∷ run) all = texts-alone texts t run all.0.0 all.0.1 (alone-texts run all.1)

  left-texts : (run : List Token) → AreAlone run → AreTexts texts (left_of_run run)
  left-texts run all = search (rules, alone-texts)

  runs-texts : (ts : List Token) → AreTexts texts ts → (run : List Token) → AreAlone run
      → AreTexts texts (map_runs left_of_run run ts)
  runs-texts =
      texts-by texts (λ ts. (run : List Token) → AreAlone run → AreTexts texts (map_runs left_of_run run ts)) left-texts
      (λ t ts alone kind all made run is.
      cond_both (is_gap t) (map_runs left_of_run (run ++ t ∷ []) ts) (left_of_run run ++ t ∷ map_runs left_of_run [] ts)
      (AreTexts texts) (λ e. made (run ++ t ∷ []) (all-append (λ t. (is_range t ≡ false) × HasItsKind texts t) run (t ∷ []) is ((alone, kind), tt)))
      (search (rules, texts-append, left-texts, texts-alone)))
      (λ t part ts quoted all made run is.
      let keeps = keeps-part (map_runs left_of_run [])
      (λ t ts h. grind (arith, nat_tests)) part ts in
      let later = texts-part texts (t ∷ part) (map_runs left_of_run [] ts) quoted (made [] tt) in
      let both = texts-append texts (left_of_run run) (t ∷ part ++ map_runs left_of_run [] ts)
      (left-texts run is) later in
      grind (arith, nat_tests, keeps, both))

  pub part-texts : (ts : List Token) → AreTexts texts (without_faults ts) → AreTexts texts (part_tokens texts ts)
  part-texts ts all = search (rules, runs-texts, spaces-texts, inner-texts)

  -- macros

  front_gaps-texts : (ts : List Token) → AreTexts texts ts → AreTexts texts (without_front_gaps ts)
  front_gaps-texts =
      texts-by texts (λ ts. AreTexts texts (without_front_gaps ts)) (texts-none texts)
      (λ t ts alone kind all made. grind (arith, nat_tests, texts-alone texts t ts alone kind all))
      (λ t part ts quoted all made. grind (arith, nat_tests, texts-part texts (t ∷ part) ts quoted all))

  name_space-texts : (ts : List Token) → AreTexts texts ts → name_is_range ts ≡ false
      → AreTexts texts (with_name_space texts ts)
  name_space-texts =
      texts-by texts (λ ts. name_is_range ts ≡ false → AreTexts texts (with_name_space texts ts))
      (λ h. texts-none texts) one
      (λ t part ts quoted all made h. grind (arith, nat_tests))
    where
      name : (t : Token) (ts : List Token) → is_range t ≡ false → HasItsKind texts t → AreTexts texts ts
          → AreTexts texts (with_space_after texts t ts)
      name t [] alone kind all = texts-alone texts t [] alone kind all
      name t (f ∷ ts) alone kind all =
          texts-alone texts t _ alone kind
          (cond_both (may_follow_name texts f) [] (token.White ∷ []) (λ ws. AreTexts texts (ws ++ f ∷ ts))
          (λ e. all) (λ e. white (f ∷ ts) all))

      one : (t : Token) (ts : List Token) → is_range t ≡ false → HasItsKind texts t → AreTexts texts ts
          → (name_is_range ts ≡ false → AreTexts texts (with_name_space texts ts)) → name_is_range (t ∷ ts) ≡ false
          → AreTexts texts (with_name_space texts (t ∷ ts))
      one token.White ts alone kind all made h = search (rules, texts-alone)
      one t ts alone kind all made h = search (rules, texts-alone, name)

  -- the tokens of a macro before its name is looked for
  abbrev pub front_tokens : List Token → List Token
  front_tokens ts = with_spaces texts (without_front_gaps (clean_tokens ts))

  pub macro-texts : (ts : List Token) → AreTexts texts (without_faults ts) → name_is_range (front_tokens ts) ≡ false
      → AreTexts texts (macro_tokens texts ts)
  macro-texts ts all h = search (rules, runs-texts, name_space-texts, spaces-texts, front_gaps-texts, inner-texts)
