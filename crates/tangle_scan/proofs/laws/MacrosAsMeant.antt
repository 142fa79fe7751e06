-- A C compiler reads the items of a macro as the author means them.
use Rattle.std.proofs.lemmas.Bool.{cases_Bool}
use Rattle.std.proofs.Common.{rules}
use Rattle.std.proofs.lemmas.Bool.Decides.{nat_tests}
use Rattle.std.proofs.Common.{arith}
use Rattle.std.proofs.Common.{◌≡◌, ℕ, Bool, true, false, ◌&&◌, not, List, [], ◌∷◌, ◌++◌, flat_map}
use Rattle.std.proofs.Common.{append_assoc, append-nil, Option, Some, None, is_some, inl, inr, ◌⊎◌, refl, subst}
use Rattle.tangle_files.specs.Bytes.{space, line_feed}
use Rattle.tangle_lexer.specs.declared.tokens.Token.{Token}
use Rattle.tangle_lexer.specs.declared.tokens.Token.TheVariants as token
use Rattle.tangle_scan.specs.Rules.{next_item, has_blank_at_line_end, is_name_part, macro_blanks, unmarked_items}
use Rattle.tangle_scan.specs.Rules.{is_front_gap, is_continued}
use Rattle.tangle_scan.specs.MacroBytes.{macro_item_bytes, macro_bytes}
use Rattle.tangle_scan.specs.ReadAsMeant.{Gap, Space, TakenOut, gap_bytes, as_read, is_empty, without_spaces}
use Rattle.tangle_scan.specs.ReadAsMeant.{written_tokens, token_bytes, AreReadAsMeant}
use Rattle.tangle_scan.specs.ReadAsMeant.{EndsMacro, IsMacroReadAsMeant}
use Rattle.tangle_scan.proofs.laws.MacroEnds.{items_from, end-items, EndsInItem, ends-before, written-ends}
use Rattle.tangle_scan.proofs.laws.GapReading.{read-append, spaces-append, bytes-append}
use Rattle.tangle_scan.proofs.laws.GapReading.{blank_before}

module _ (texts : List (List ℕ)) where
  -- The bytes that rule 3 makes of the tokens of a macro. The arguments before the tokens are those of the rule.

  abbrev text_from : Bool → Option Token → Bool → List Token → List ℕ
  text_from in_name before white es = flat_map (macro_item_bytes texts) (items_from texts in_name before white es)

  abbrev bytes_of : Token → List ℕ
  bytes_of e = token_bytes texts (λ e. []) e

  abbrev bytes_in_gap : List Gap → List ℕ
  bytes_in_gap gap = gap_bytes (λ origin. []) gap

  -- the bytes of an item, and of a blank before it
  text-item : (in_name : Bool) (before : Option Token) (white : Bool) (e : Token) (es : List Token)
      → is_front_gap e ≡ false
      → text_from in_name before white (e ∷ es)
      ≡ bytes_in_gap (blank_before (is_some before && white) [])
      ++ (bytes_of e ++ text_from (in_name && not white && is_name_part e) (Some e) false es)
  text-item in_name before white e es item = grind arith

  -- The items of the tokens that follow are read as meant, and the line feed at the end of the macro is read.

  abbrev AreRead : Bool → List ℕ → Option Token → List Token → List ℕ → Type 0
  AreRead in_name meant before es bytes =
      AreReadAsMeant texts (λ origin. []) (λ e. []) space (EndsMacro texts) in_name meant before es bytes

  -- spaces are meant, if there is white space, or else nothing
  abbrev AreSpaces : List ℕ → Bool → Type 0
  AreSpaces meant white = (without_spaces meant ≡ []) × (is_empty meant ≡ not white)

  more-spaces : (meant : List ℕ) (white : Bool) → AreSpaces meant white → AreSpaces (meant ++ space ∷ []) true
  more-spaces meant white are = grind (arith, nat_tests, spaces-append)

  -- the tokens that follow are read as meant after an item on the same line, or at the front of the macro
  abbrev ReadsOnLine : List Token → Type 0
  ReadsOnLine es = (in_name white : Bool) (meant : List ℕ) (before : Option Token)
      → AreSpaces meant white → EndsInItem texts es before →
      AreRead in_name meant before es (text_from in_name before white es ++ line_feed ∷ [])

  -- `gap` has line ends. The compiler reads spaces of it or, if no white space is needed before the next item, perhaps
  -- nothing.
  abbrev IsGap : Bool → Option Token → List Gap → List Token → Type 0
  IsGap in_name before gap es =
      (without_spaces (as_read (is_continued texts before) gap) ≡ [])
      × ((is_empty (as_read (is_continued texts before) gap) ≡ false)
      ⊎ (has_blank_at_line_end texts in_name before (next_item es) ≡ false))

  abbrev ReadsAfterLineEnds : List Token → Type 0
  ReadsAfterLineEnds es = (in_name white : Bool) (meant : List ℕ) (before : Option Token) (gap : List Gap)
      → AreSpaces meant true → IsGap in_name before gap es → EndsInItem texts es (Some token.White) →
      AreRead in_name meant before es (bytes_in_gap gap ++ (text_from false None white es ++ line_feed ∷ []))

  record MacroIsRead (es : List Token) : Type 0 where
    on_line : ReadsOnLine es
    after_line_ends : ReadsAfterLineEnds es

  reads-line_end : (line : ℕ) (es : List Token) → ReadsAfterLineEnds es → ReadsOnLine (token.LineEnd line ∷ es)
  reads-line_end line es next in_name white meant before are ends =
      elim (cases_Bool (has_blank_at_line_end texts in_name before (next_item es))) [
        | inl is ↦ grind (arith, nat_tests, after (Space ∷ TakenOut ∷ []) (refl, inl refl))
        | inr is ↦ grind (arith, nat_tests, after (TakenOut ∷ []) (refl, inr is))
      ]
    where
      after : (gap : List Gap) → IsGap in_name before gap es → AreRead in_name (meant ++ space ∷ []) before es
          (bytes_in_gap gap ++ (text_from false None false es ++ line_feed ∷ []))
      after gap is = search (rules, more-spaces, ends-before)

  reads-on_line : (e : Token) (es : List Token) → is_front_gap e ≡ false → ReadsOnLine es → ReadsOnLine (e ∷ es)
  reads-on_line e es item next in_name white meant before are ends = search (rules, text-item, append_assoc)

  reads-after_line_ends : (e : Token) (es : List Token)
      → is_front_gap e ≡ false → next_item (e ∷ es) ≡ Some e → ReadsOnLine es
      → ReadsAfterLineEnds (e ∷ es)
  reads-after_line_ends e es item first next in_name white meant before gap are is ends = search (rules, append_assoc)

  -- one more line end after line ends
  reads-more_line_ends : (line : ℕ) (es : List Token)
      → ReadsAfterLineEnds es → ReadsAfterLineEnds (token.LineEnd line ∷ es)
  reads-more_line_ends line es next in_name white meant before gap are is ends =
      subst (AreRead in_name (meant ++ space ∷ []) before es)
      (search (rules, bytes-append, append_assoc))
      (next in_name false (meant ++ space ∷ []) before (gap ++ TakenOut ∷ []) (more-spaces meant true are)
      (grind (arith, read-append, append-nil))
      (ends-before texts (token.LineEnd line) es (Some token.White) refl ends))

  reads : (es : List Token) → MacroIsRead es
  reads [] = grind (arith, nat_tests)
  reads (token.White ∷ es) =
      let next = reads es in
      record {
        on_line = λ in_name white meant before are ends. grind (arith, nat_tests, more-spaces meant white are, ends-before);
        after_line_ends = search (rules, more-spaces, next.after_line_ends);
      }
  reads (token.LineEnd line ∷ es) = search (rules, reads-line_end, reads-more_line_ends, reads es)
  reads (e ∷ es) = search (rules, reads-on_line, reads-after_line_ends, reads es)

  -- the items of a whole macro are read as meant
  pub macro-as-meant : (es : List Token)
      → IsMacroReadAsMeant texts es (macro_bytes texts (unmarked_items (macro_blanks texts true None false es)))
  macro-as-meant es =
      let tokens : List Token = written_tokens texts es in
      grind (arith, nat_tests, end-items texts es, reads tokens, written-ends texts es)
