-- The tokens of a source are in order. `texts` are the bytes of the source lines.
use Rattle.std.proofs.Common.{rules}
use Rattle.std.proofs.Common.{arith}
use Rattle.std.proofs.Common.{◌≡◌, ℕ, zero, suc, true, List, [], ◌∷◌, flat_map, drop}
use Rattle.std.proofs.Common.{refl, ap, sym, ◌∙◌, subst}
use Rattle.tangle_faults.specs.declared.faults.FaultKind.TheVariants as fault
use Rattle.tangle_lexer.specs.declared.modes.LexerState.{LexerState}
use Rattle.tangle_lexer.specs.declared.lexeme_kinds.ControlCode.TheVariants as code
use Rattle.tangle_lexer.specs.declared.lexeme_kinds.LexemeKind.{LexemeKind}
use Rattle.tangle_lexer.specs.declared.lexeme_kinds.LexemeKind.TheVariants as lexeme_kind
use Rattle.tangle_text.specs.declared.regions.Region.TheVariants as region
use Rattle.tangle_text.specs.Bytes.{asterisk, slash}
use Rattle.tangle_text.specs.Text.{Cell}
use Rattle.tangle_lexer.specs.Lexemes.{Lexeme}
use Rattle.tangle_lexer.specs.Names.{use_of_name}
use Rattle.tangle_lexer.specs.Simple.{is_c_text}
use Rattle.tangle_lexer.specs.Steps.{c_lexeme, lexeme, lexemes}
use Rattle.tangle_lexer.proofs.lemmas.LexemeCases.{OpensLexeme, IsPlainKind, lexeme-by}
use Rattle.tangle_lexer.proofs.laws.Points.{Point, after_cell, HoldsBytes, IsTextAt}
use Rattle.tangle_lexer.specs.declared.tokens.SpanKind.TheVariants as span_kind
use Rattle.tangle_lexer.proofs.laws.TokenOrder.{IsBefore, Reaches, text-later, IsAtLine, AreInOrder, AreFromLine, in_order-append, in_order-weaker, faults-in_order}
use Rattle.tangle_lexer.proofs.laws.RegionOrder.{some-byte, are_bytes-hold, code-bytes, more-bytes, region-bytes}
use Rattle.tangle_lexer.proofs.laws.RegionOrder.{lexeme-line, end-line}
use Rattle.tangle_lexer.proofs.laws.WhiteOrder.{word-bytes, LexemeIsInOrder}
use Rattle.tangle_lexer.proofs.laws.WhiteOrder.{region-in_order, span-in_order, IsAhead}
use Rattle.tangle_lexer.proofs.laws.CutTexts.{double_quote-cut, apostrophe-cut, header_name-cut}
use Rattle.tangle_lexer.proofs.laws.QuotedOrder.{quoted-in_order, verbatim_text-in_order}
use Rattle.tangle_lexer.proofs.laws.ConstantCells.{ascii_constant-in_order}
use Rattle.tangle_lexer.proofs.laws.NameOrder.{use_of_name-in_order, name-in_order}

module _ (texts : List (List ℕ)) where
  -- C text and macros
  kind-in_order : (kind : LexemeKind) (s : LexerState) (at : Point) (c : Cell) (cs : List Cell)
      → IsPlainKind kind → OpensLexeme kind (c ∷ cs) → IsTextAt texts at (c ∷ cs)
      → LexemeIsInOrder texts at.line c cs (c_lexeme kind s (c ∷ cs))
  kind-in_order (lexeme_kind.Control code.SectionStart) s at c cs plain o is = absurd plain
  kind-in_order (lexeme_kind.Control code.Name) s at c cs plain o is = absurd plain
  kind-in_order (lexeme_kind.Control code.DoubleAt) s at c cs plain o is =
      span-in_order texts span_kind.Sign at 1 1 c cs is (omega arith)
      (code-bytes code.DoubleAt (c ∷ cs) (λ e. cc) o)
  kind-in_order lexeme_kind.Other s at c cs plain o is =
      span-in_order texts span_kind.Sign at 1 0 c cs is (omega arith) (some-byte c.byte o.0, tt)
  kind-in_order (lexeme_kind.Control code.ControlText) s at c cs plain o is =
      region-in_order texts region.ControlText (λ b n h. grind arith) fault.ControlText s at c cs is
      (code-bytes code.ControlText (c ∷ cs) (λ e. cc) o)
  kind-in_order lexeme_kind.BlockComment s at c cs plain o is =
      region-in_order texts region.BlockComment (λ b n h. grind arith) fault.CommentEnd s at c cs is
      (are_bytes-hold slash asterisk (c ∷ cs) o)
  kind-in_order (lexeme_kind.Control code.Verbatim) s at c cs plain o is =
      verbatim_text-in_order texts s at c cs is (code-bytes code.Verbatim (c ∷ cs) (λ e. cc) o)
  -- white space, a single token, a word, and a quoted text
  kind-in_order _ s at c cs plain o is = first_of (
    search (rules, text-later),
    search (rules, ascii_constant-in_order),
    search (rules, quoted-in_order, double_quote-cut, apostrophe-cut, header_name-cut, some-byte),
    search (rules, faults-in_order, lexeme-line, more-bytes, region-bytes, text-later),
    search (rules, span-in_order, word-bytes, some-byte),
  )

  -- the tokens of a lexeme are in order from a line on, on which the lexeme is if it is in C text
  abbrev Law : LexerState → List Cell → Lexeme → Type 0
  Law s text here =
      (line : ℕ) (p : Point) → IsAhead texts s.mode text line p
      → AreInOrder texts (IsAhead texts here.after.mode (drop here.more (drop 1 text))) line p here.tokens

  lexeme-law : (s : LexerState) (at : Point) (c : Cell) (cs : List Cell)
      → IsTextAt texts at (c ∷ cs) → Law s (c ∷ cs) (lexeme s (c ∷ cs))
  lexeme-law s at c cs is =
      lexeme-by (Law s text) s text (record {
        section = λ line p h. (tt, ((λ inside. cc), later 0 p h.1));
        macro = λ o line p h. (tt, (head-line (code-bytes code.Macro text (λ e. cc) o), later 1 p h.1));
        part = λ o line p h. (tt, (head-line (code-bytes code.UnnamedPart text (λ e. cc) o), later 1 p h.1));
        used = λ m o. within (use_of_name s text) (ap is_c_text m) (use_of_name-in_order texts s at.line at c cs is);
        name = λ out line p h. name-in_order texts s line at c cs is p h.1;
        limbo = search (rules, later);
        skip = λ out n line p h. ((λ inside. absurd (grind arith)), later n p h.1);
        format = λ m line p h. ((λ inside. cc), later 1 p h.1);
        misplaced = search (rules, later);
        inside = λ inside kind p o. within (c_lexeme kind s text) inside (kind-in_order kind s at c cs p o is);
      })
    where
      text : List Cell
      text = c ∷ cs

      -- a head of two bytes
      head-line : {X : Type 0} → HoldsBytes 2 text → X → IsAtLine c.line (drop 1 cs)
      head-line two x = end-line texts true at text c.line is (λ e. two) refl

      later : (n : ℕ) (p : Point) → Reaches text p → Reaches (drop n cs) p
      later n p = text-later texts n at p c cs is

      -- a lexeme that is read inside C text
      within : (here : Lexeme) → is_c_text s.mode ≡ true → LexemeIsInOrder texts at.line c cs here
          → Law s (c ∷ cs) here
      within here inside ordered line p h =
          in_order-weaker texts (IsBefore (drop here.more cs)) _
          (λ l q there. ((λ e. there.0), there.1)) line p here.tokens
          (subst (λ l. LexemeIsInOrder texts l c cs here) (sym is.0.line ∙ h.0 inside) ordered p h.1)

  -- all lexemes of a text
  pub lexemes-in_order : (k : ℕ) (s : LexerState) (text : List Cell) (at : Point) (line : ℕ) (p : Point)
      → IsTextAt texts at text → IsAhead texts s.mode (drop k text) line p
      → AreFromLine texts line p (flat_map (λ l. l.tokens) (lexemes k s text))
  lexemes-in_order k s [] at line p is h = tt
  lexemes-in_order (suc k) s (c ∷ cs) at line p is h = lexemes-in_order k s cs (after_cell c) line p is.1 h
  lexemes-in_order zero s (c ∷ cs) at line p is h =
      let here : Lexeme = lexeme s (c ∷ cs) in
      in_order-append texts (λ l q. Unit {0}) (flat_map (λ l. l.tokens) (lexemes here.more here.after cs))
      line p here.tokens
      (in_order-weaker texts (IsAhead texts here.after.mode (drop here.more cs)) _
      (λ l q. lexemes-in_order here.more here.after cs (after_cell c) l q is.1) line p here.tokens
      (lexeme-law s at c cs is line p h))
