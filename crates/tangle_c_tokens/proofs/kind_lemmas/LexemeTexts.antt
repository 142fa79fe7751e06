-- The tokens of each lexeme are texts, one after another.
use Rattle.std.proofs.Common.{rules}
use Rattle.std.proofs.Common.{arith}
use Rattle.std.proofs.Common.{◌≡◌, ℕ, zero, suc, ◌+◌, Bool, true, false, List, [], ◌∷◌, ◌++◌, Option, Some, None}
use Rattle.std.proofs.Common.{refl, append-nil, map, flat_map}
use Rattle.std.proofs.lemmas.Bool.{cond_both}
use Rattle.tangle_faults.specs.declared.faults.FaultKind.{FaultKind}
use Rattle.tangle_faults.specs.declared.faults.FaultKind.TheVariants as fault
use Rattle.tangle_lines.specs.Bytes.{at_sign, double_quote}
use Rattle.tangle_text.specs.declared.regions.Region.{Region}
use Rattle.tangle_text.specs.declared.regions.Region.TheVariants as region
use Rattle.tangle_text.specs.Bytes.{holds, is_line_end, holds_word_byte}
use Rattle.tangle_text.specs.Bytes.{apostrophe}
use Rattle.tangle_text.specs.Bytes.{less_sign}
use Rattle.tangle_text.specs.Text.{Cell, byte_at, span_at}
use Rattle.tangle_text.specs.Regions.{unit_at, more_by}
use Rattle.tangle_text.specs.Words.{word_more}
use Rattle.tangle_lexer.specs.declared.modes.Mode.{Mode}
use Rattle.tangle_lexer.specs.declared.modes.Mode.TheVariants as mode
use Rattle.tangle_lexer.specs.declared.modes.IncludeState.{IncludeState}
use Rattle.tangle_lexer.specs.declared.modes.LexerState.{LexerState}
use Rattle.tangle_lexer.specs.declared.lexeme_kinds.ControlCode.{ControlCode}
use Rattle.tangle_lexer.specs.declared.lexeme_kinds.ControlCode.TheVariants as code
use Rattle.tangle_lexer.specs.declared.lexeme_kinds.LexemeKind.{LexemeKind}
use Rattle.tangle_lexer.specs.declared.lexeme_kinds.LexemeKind.TheVariants as lexeme_kind
use Rattle.tangle_lexer.specs.declared.tokens.Token.{Token}
use Rattle.tangle_lexer.specs.declared.tokens.Token.TheVariants as token
use Rattle.tangle_lexer.specs.declared.tokens.SpanKind.TheVariants as span_kind
use Rattle.tangle_lexer.specs.LinesOfC.{inner_end_in}
use Rattle.tangle_lexer.specs.Lexemes.{Lexeme, fault_if}
use Rattle.tangle_lexer.specs.Comments.{line_ends, starts_section}
use Rattle.tangle_lexer.specs.Quoted.{next_start, cut_tokens, verbatim_end}
use Rattle.tangle_lexer.specs.Names.{name_in_documentation, definition_or_mention, definition_count}
use Rattle.tangle_lexer.specs.CText.{code_at, kind_by, kind_at}
use Rattle.tangle_lexer.specs.Steps.{documentation_code, c_code, c_lexeme, macro_lexeme, lexeme_in, lexeme, lexemes}
use Rattle.tangle_lexer.proofs.lemmas.PlainTokens.{HasNone, none-append, none-flat}
use Rattle.tangle_scan.specs.Rules.{without_faults}
use Rattle.tangle_c_tokens.specs.Kinds.{IsQuotedText, AreTexts}
use Rattle.tangle_c_tokens.proofs.kind_lemmas.Lines.{AreClear}
use Rattle.tangle_lexer.proofs.laws.Points.{Point, after_cell, IsTextAt}
use Rattle.tangle_c_tokens.proofs.kind_lemmas.Texts.{is_source, faults-append, texts-none, texts-alone, texts-part}
use Rattle.tangle_c_tokens.proofs.kind_lemmas.Texts.{texts-append, others-texts}
use Rattle.tangle_c_tokens.proofs.kind_lemmas.Quotes.{string-text, character-text, header-text}
use Rattle.tangle_c_tokens.proofs.kind_lemmas.Spans.{sign-span, word-span}
use Rattle.std.proofs.lemmas.Bool.Decides.{nat_tests}

-- tokens without words, signs and quoted texts

record HasNoSource (ts : List Token) : Type 0 where
  pub none : HasNone is_source ts

seen : (ts : List Token) → HasNone is_source ts → HasNoSource ts
seen ts h = record { none = h }

no-append : (xs ys : List Token) → HasNoSource xs → HasNoSource ys → HasNoSource (xs ++ ys)
no-append xs ys h k = seen (xs ++ ys) (none-append is_source xs ys h.none k.none)

no-fault : (b : Bool) (kind : FaultKind) (line : ℕ) → HasNoSource (fault_if b kind line)
no-fault b kind line = search rules

no-line_ends : (r : Region) (text : List Cell) → HasNoSource (line_ends r text)
no-line_ends r text = grind (arith, nat_tests, none-flat)

no-inner : (b : Bool) (ts : List Token) → HasNone is_source ts → HasNone is_source (map (inner_end_in b) ts)
no-inner b [] h = refl
no-inner b (t ∷ ts) h = grind (arith, nat_tests, no-inner b ts)

no-white : (b : Bool) (ends faults : List Token) → HasNoSource ends → HasNoSource faults
    → HasNoSource (token.White ∷ map (inner_end_in b) ends ++ faults)
no-white b ends faults h k = grind (arith, nat_tests, none-append, no-inner)

ruleset no_source = (seen, no-white, no-line_ends, no-fault)

-- verbatim texts have no breaks

no-verbatim_end : (start : ℕ) (text : List Cell) → HasNoSource (verbatim_end start text)
no-verbatim_end start text = search rules

no-cut : (k start : ℕ) (text : List Cell) → HasNoSource (cut_tokens verbatim_end region.Verbatim k start text)
no-cut zero start [] = no-verbatim_end start []
no-cut (suc k) start [] = no-verbatim_end start []
no-cut (suc k) start (c ∷ cs) = no-cut k start cs
no-cut zero start (c ∷ cs) =
    let u = unit_at region.Verbatim (c ∷ cs) in
    let rest = no-cut (more_by u) (next_start u start c (byte_at 0 cs)) cs in
    grind (arith, nat_tests, no-verbatim_end start (c ∷ cs), none-append, rest)

-- names and constants

no-name : (s : LexerState) (text : List Cell) → HasNoSource (name_in_documentation s text).tokens
no-name s text = by (definition_count text)
  where
    by : (count : Option ℕ) → HasNoSource (definition_or_mention count s text).tokens
    by count = search (rules, no-append, no-fault, seen)

-- what the first byte of a lexeme of this kind is
abbrev Shows : LexemeKind → Option ℕ → Type 0
Shows (lexeme_kind.Control code) b = holds at_sign b ≡ true
Shows lexeme_kind.DoubleQuote b = b ≡ Some double_quote
Shows lexeme_kind.Apostrophe b = b ≡ Some apostrophe
Shows lexeme_kind.HeaderName b = b ≡ Some less_sign
Shows lexeme_kind.Word b = holds_word_byte b ≡ true
Shows lexeme_kind.Other b = is_line_end b ≡ false
Shows _ b = Unit {0}

kind-shows : (inc : IncludeState) (b next : Option ℕ) → Shows (kind_by inc b next) b
kind-shows inc None next = tt
kind-shows inc (Some b) next = grind (arith, nat_tests)

module _ (texts : List (List ℕ)) (clear : AreClear texts) where
  -- these tokens are texts, without their faults
  record AreWhole (ts : List Token) : Type 0 where
    pub are : AreTexts texts (without_faults ts)

  whole : (ts : List Token) → AreTexts texts (without_faults ts) → AreWhole ts
  whole ts all = record { are = all }

  others-whole : (ts : List Token) → HasNoSource ts → AreWhole ts
  others-whole ts h = whole ts (others-texts texts ts h.none)

  sign-whole : (at : Point) (c : Cell) (cs : List Cell) → IsTextAt texts at (c ∷ cs) → (b : Option ℕ) → c.byte ≡ b
      → is_line_end b ≡ false
      → AreWhole (token.Span span_kind.Sign (span_at 1 (c ∷ cs)) ∷ [])
  sign-whole at c cs is None e byte = cc
  sign-whole at c cs is (Some b) e byte = whole _ (search (rules, texts-alone, sign-span texts clear, texts-none))

  word-whole : (at : Point) (c : Cell) (cs : List Cell) → IsTextAt texts at (c ∷ cs) → (b : Option ℕ) → c.byte ≡ b
      → holds_word_byte b ≡ true
      → AreWhole (token.Span span_kind.Word (span_at (1 + word_more (c ∷ cs)) (c ∷ cs)) ∷ [])
  word-whole at c cs is None e word = cc
  word-whole at c cs is (Some b) e word = whole _ (search (rules, texts-alone, word-span texts clear, texts-none))

  quoted-whole : (ts : List Token) → IsQuotedText texts (without_faults ts) → AreWhole ts
  quoted-whole ts quoted =
      whole ts (simp append-nil at (texts-part texts (without_faults ts) [] quoted (texts-none texts)))

  code-whole : (kind : ControlCode) (s : LexerState) (at : Point) (c : Cell) (cs : List Cell)
      → IsTextAt texts at (c ∷ cs)
      → holds at_sign c.byte ≡ true → AreWhole (c_code kind s (c ∷ cs)).tokens
  code-whole code.DoubleAt s at c cs is sign = grind (arith, nat_tests, sign-whole at c cs is c.byte)
  code-whole code.Verbatim s at c cs is sign = others-whole _ (search (rules, no-append, no-cut, seen))
  code-whole code.Name s at c cs is sign = others-whole _ (search (rules, no-append, no-fault))
  code-whole code s at c cs is sign = others-whole _ (search (rules, no_source))

  kind-whole : (kind : LexemeKind) (s : LexerState) (at : Point) (c : Cell) (cs : List Cell)
      → IsTextAt texts at (c ∷ cs)
      → Shows kind c.byte → AreWhole (c_lexeme kind s (c ∷ cs)).tokens
  kind-whole (lexeme_kind.Control code) s at c cs is shows = code-whole code s at c cs is shows
  kind-whole lexeme_kind.Word s at c cs is shows = word-whole at c cs is c.byte refl shows
  kind-whole lexeme_kind.Other s at c cs is shows = sign-whole at c cs is c.byte refl shows
  kind-whole kind s at c cs is shows =
      let string = string-text texts clear s at c cs is in
      let character = character-text texts clear s at c cs is in
      let header = header-text texts clear s at c cs is in
      search (rules, no_source, quoted-whole, string, character, header, others-whole)

  documentation-whole : (kind : ControlCode) (s : LexerState) (text : List Cell)
      → AreWhole (documentation_code kind s text).tokens
  documentation-whole code.Name s text = others-whole _ (no-name s text)
  documentation-whole _ s text = others-whole _ (seen _ refl)

  macro-whole : (kind : LexemeKind) (s : LexerState) (at : Point) (c : Cell) (cs : List Cell)
      → IsTextAt texts at (c ∷ cs)
      → Shows kind c.byte → AreWhole (macro_lexeme kind s (c ∷ cs)).tokens
  macro-whole (lexeme_kind.Control code.Name) s at c cs is shows = others-whole _ (no-name s (c ∷ cs))
  macro-whole (lexeme_kind.Control code) s at c cs is shows = search (rules, others-whole, seen, code-whole)
  macro-whole kind s at c cs is shows = kind-whole kind s at c cs is shows

  lexeme-whole : (s : LexerState) (at : Point) (c : Cell) (cs : List Cell) → IsTextAt texts at (c ∷ cs)
      → AreWhole (lexeme s (c ∷ cs)).tokens
  unfolding lexeme
  lexeme-whole s at c cs is = by s.mode
    where
      shows : Shows (kind_at s.line.include (c ∷ cs)) c.byte
      shows = kind-shows s.line.include c.byte (byte_at 0 cs)

      by : (m : Mode) → AreWhole (lexeme_in m s (c ∷ cs)).tokens
      by mode.Limbo =
          cond_both (starts_section (c ∷ cs)) _ _ (λ (x : Lexeme). AreWhole x.tokens)
          (λ e. others-whole _ (seen _ refl)) (λ e. cond_both (holds at_sign c.byte) _ _ (λ (x : Lexeme). AreWhole x.tokens)
          (λ e. others-whole _ (no-fault _ fault.LimboCode c.line)) (λ e. others-whole _ (seen _ refl)))
      by mode.Documentation =
          cond_both (holds at_sign c.byte) _ _ (λ (x : Lexeme). AreWhole x.tokens)
          (λ e. documentation-whole (code_at (byte_at 0 cs)) s (c ∷ cs)) (λ e. others-whole _ (seen _ refl))
      by mode.CPart = kind-whole (kind_at s.line.include (c ∷ cs)) s at c cs is shows
      by mode.Macro = macro-whole (kind_at s.line.include (c ∷ cs)) s at c cs is shows

  pub lexemes-whole : (k : ℕ) (s : LexerState) (at : Point) (text : List Cell) → IsTextAt texts at text
      → AreTexts texts (without_faults (flat_map (λ l. l.tokens) (lexemes k s text)))
  lexemes-whole k s at [] is = texts-none texts
  lexemes-whole (suc k) s at (c ∷ cs) is = lexemes-whole k s (after_cell c) cs is.1
  lexemes-whole zero s at (c ∷ cs) is =
      let here = lexeme s (c ∷ cs) in
      rw (faults-append here.tokens (flat_map (λ l. l.tokens) (lexemes here.more here.after cs)))
      (texts-append texts (without_faults here.tokens) _ (lexeme-whole s at c cs is).are
      (lexemes-whole here.more here.after (after_cell c) cs is.1))
