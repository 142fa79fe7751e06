-- The open line of C, that is, the tokens since the last line of C ended, and what the lexer's state says of it.
use Rattle.std.proofs.lemmas.Bool.Decides.{nat_tests}
use Rattle.std.proofs.Common.{arith}
use Rattle.std.proofs.Common.{◌≡◌, ℕ, Bool, true, false, ◌&&◌, ◌||◌, List, [], ◌∷◌, ◌++◌, refl}
use Rattle.std.proofs.Common.{cond, if◌then◌else◌}
use Rattle.std.specs.Prelude.{filter}
use Rattle.std.specs.List.{list_any}
use Rattle.std.proofs.lemmas.List.Folds.{list_any-append, list_all-append}
use Rattle.tangle_lexer.specs.declared.tokens.Token.{Token}
use Rattle.tangle_lexer.specs.declared.tokens.Token.TheVariants as token
use Rattle.tangle_lexer.specs.declared.modes.LineOfC.{LineOfC}
use Rattle.tangle_lexer.specs.declared.modes.LineOfC.TheVariants as line
use Rattle.tangle_lexer.specs.declared.modes.AtLineEnd.{AtLineEnd}
use Rattle.tangle_lexer.specs.declared.modes.AtLineEnd.TheVariants.{Ends, Continued, Removed}
use Rattle.tangle_lexer.specs.LinesOfC.{with_item, at_next_line_end}
use Rattle.tangle_lexer.specs.LinesOfC as lines_of_c
use Rattle.tangle_lexer.specs.LinesOfParts.{is_number_sign, is_use, is_join, is_white_space, is_between_items}
use Rattle.tangle_lexer.specs.SpanBytes.{ends_in_backslash}
use Rattle.tangle_lexer.specs.LinesOfParts.{is_directive, is_continued_line, join_behind, is_inner_line_end}

-- no line ends are known to be removed by a join that is ahead, or they are
abbrev pub settled : LineOfC → Bool → LineOfC
settled line.AfterDirective true = line.Directive
settled line.AfterOther true = line.Other
settled line.AfterDirective false = line.Empty
settled line.AfterOther false = line.Empty
settled l joined = l

module _ (texts : List (List ℕ)) where
  -- what a line is, by its first item so far
  abbrev pub kind_of : List Token → LineOfC
  kind_of [] = line.Empty
  kind_of (t ∷ ts) =
      if is_between_items t then kind_of ts
      else if is_number_sign texts t then line.Directive else line.Other

  -- what a line of this kind is after one more token
  abbrev pub kind_after : Token → LineOfC → LineOfC
  kind_after t k = if is_between_items t then k else with_item (is_number_sign texts t) k

  pub kind-snoc : (ts : List Token) (t : Token) → kind_of (ts ++ t ∷ []) ≡ kind_after t (kind_of ts)
  kind-snoc [] t = refl
  kind-snoc (u ∷ us) t = grind (arith, nat_tests, kind-snoc us t)

  pub directive-is : (ts : List Token) → is_directive texts ts ≡ lines_of_c.is_directive_line (kind_of ts)
  directive-is [] = refl
  directive-is (t ∷ ts) = grind (arith, nat_tests, directive-is ts)

  -- a directive stays one
  pub directive-append : (ts us : List Token) → is_directive texts ts ≡ true → is_directive texts (ts ++ us) ≡ true
  directive-append [] us h = cc
  directive-append (t ∷ ts) us h = grind (arith, nat_tests, directive-append ts us)

  -- what a line end after a line does
  abbrev pub end_of : List Token → AtLineEnd
  end_of ts = if join_behind ts then Removed else if is_continued_line texts ts then Continued else Ends

  abbrev pub end_after : Token → AtLineEnd → AtLineEnd
  end_after token.Join e = Removed
  end_after token.White e = e
  end_after (token.InnerLineEnd n) e = e
  end_after (token.Fault kind n) e = e
  end_after (token.LineEnd n) e = at_next_line_end e
  end_after t e = if ends_in_backslash texts t then Continued else Ends

  join-snoc : (ts : List Token) (t : Token)
      → join_behind (ts ++ t ∷ []) ≡ (is_join t || is_between_items t && join_behind ts)
  join-snoc [] t = grind arith
  join-snoc (u ∷ us) t = grind (arith, nat_tests, list_all-append is_between_items us (t ∷ []), join-snoc us t)

  on-snoc : (ts : List Token) (t : Token)
      → is_continued_line texts (ts ++ t ∷ []) ≡ cond (is_white_space t) (is_continued_line texts ts) (ends_in_backslash texts t)
  on-snoc [] t = grind (arith, nat_tests)
  on-snoc (u ∷ us) t = grind (arith, nat_tests, list_all-append is_white_space us (t ∷ []), on-snoc us t)

  pub end-snoc : (ts : List Token) (t : Token) → end_of (ts ++ t ∷ []) ≡ end_after t (end_of ts)
  end-snoc ts t = grind (arith, nat_tests, join-snoc, on-snoc)

  -- inner line ends are in directives alone, also with one more token
  pub inner-snoc : (ts : List Token) (t : Token)
      → (list_any is_inner_line_end ts ≡ true → is_directive texts ts ≡ true)
      → (is_inner_line_end t ≡ true → is_directive texts ts ≡ true)
      → list_any is_inner_line_end (ts ++ t ∷ []) ≡ true → is_directive texts (ts ++ t ∷ []) ≡ true
  inner-snoc ts t before here h = grind (arith, nat_tests, directive-append, list_any-append)

-- the uses among tokens without uses and others are those of the others
pub uses-append : (ts us : List Token) → list_any is_use ts ≡ false → filter is_use (ts ++ us) ≡ filter is_use us
uses-append [] us h = refl
uses-append (t ∷ ts) us h = grind (arith, nat_tests, uses-append ts us)

pub uses-snoc : (ts : List Token) (t : Token) → list_any is_use ts ≡ false → is_use t ≡ false
    → list_any is_use (ts ++ t ∷ []) ≡ false
uses-snoc ts t h j = rw (list_any-append is_use ts (t ∷ []), h, j) refl
