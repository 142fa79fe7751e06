-- A C compiler reads the items of macros and pieces as the author means them: what stands together
-- in the web it reads together, and what the web keeps apart it reads apart.
use Rattle.std.specs.Prelude.{◌≡◌, ℕ, Bool, true, false, ◌==◌, ◌&&◌, not, if◌then◌else◌, List, []}
use Rattle.std.specs.Prelude.{◌∷◌, ◌++◌, map, filter, flat_map, codes, decimal, Option, None, Some}
use Rattle.std.specs.List.{AllZip, list_all}
use Rattle.std.specs.Option.{IfSome}
use Rattle.std.specs.Str.{bytes_eq}
use Rattle.tangle_files.specs.Bytes.{space, line_feed}
use Rattle.tangle_text.specs.Bytes.{backslash}
use Rattle.tangle_lines.specs.declared.origin.Origin.{Origin}
use Rattle.tangle_lines.specs.Reading.{SourceLine, SourceRead, origin_at}
use Rattle.tangle_lexer.specs.declared.tokens.Token.{Token}
use Rattle.tangle_lexer.specs.declared.tokens.Token.TheVariants as token
use Rattle.tangle_lexer.specs.declared.tokens.SpanKind.TheVariants as span_kind
use Rattle.tangle_lexer.specs.Steps.{all_tokens}
use Rattle.tangle_scan.specs.Rules.{texts_of, span_text, is_name_part}
use Rattle.tangle_lexer.specs.SpanBytes.{ends_in_backslash}
use Rattle.tangle_scan.specs.Rules.{part_tokens, macro_tokens, ends_line, without_backslashes}
use Rattle.tangle_scan.specs.Rules.{has_blank_at_line_end, is_continued, is_open, unmarked_items}
use Rattle.tangle_scan.specs.ItemBytes.{piece_item_bytes}
use Rattle.tangle_scan.specs.MacroBytes.{is_dropped_at_end, macro_bytes}
use Rattle.tangle_scan.specs.Web.{WebRead, blocks, piece_of, macro_of}

-- What is written between two items is a row of these. A C compiler takes out a backslash with a
-- line feed directly after it. A line mark begins with a line feed.
pub data Gap : Type 0 where
  Space : Gap
  LineFeed : Gap
  TakenOut : Gap
  Mark : Origin → Gap

-- the bytes of a gap, if `mark` gives those of line marks after their first line feed
abbrev pub gap_bytes : (Origin → List ℕ) → List Gap → List ℕ
gap_bytes mark [] = []
gap_bytes mark (Space ∷ gap) = space ∷ gap_bytes mark gap
gap_bytes mark (LineFeed ∷ gap) = line_feed ∷ gap_bytes mark gap
gap_bytes mark (TakenOut ∷ gap) = backslash ∷ line_feed ∷ gap_bytes mark gap
gap_bytes mark (Mark origin ∷ gap) = line_feed ∷ (mark origin ++ gap_bytes mark gap)

-- What the compiler reads of a gap: spaces, and line feeds with or without a mark. The flag says
-- whether a backslash is directly before the gap, with which a line feed is taken out. The rest of
-- its mark is then read as a part of the line.
abbrev pub as_read : Bool → List Gap → List ℕ
as_read after [] = []
as_read after (Space ∷ gap) = space ∷ as_read false gap
as_read after (TakenOut ∷ gap) = as_read false gap
as_read true (LineFeed ∷ gap) = as_read false gap
as_read true (Mark origin ∷ gap) = codes "#line" ++ as_read false gap
as_read false (x ∷ gap) = line_feed ∷ as_read false gap

abbrev pub is_empty : {X : Type 0} → List X → Bool
is_empty [] = true
is_empty (x ∷ xs) = false

abbrev pub without_spaces : List ℕ → List ℕ
without_spaces bytes = filter (λ b. not (b == space)) bytes

-- The compiler reads `read` where the author means `meant`: the same line feeds, and spaces. It
-- reads nothing where nothing is meant, and not nothing where white space is needed.
pub record IsReadAs (meant read : List ℕ) (is_needed : Bool) : Type 0 where
  pub lines : without_spaces read ≡ without_spaces meant
  pub together : is_empty meant ≡ true → is_empty read ≡ true
  pub apart : is_needed ≡ true → is_empty read ≡ false

module _ (texts : List (List ℕ)) where
  -- a sign that is a backslash
  abbrev pub is_backslash : Token → Bool
  is_backslash (token.Span span_kind.Sign s) = bytes_eq (span_text texts s) (backslash ∷ [])
  is_backslash _ = false

  -- The tokens of a C part that the compiler reads. A continued line ends in a backslash that the
  -- author means to be taken out with the line end; white space between the two is taken out too.
  -- The flag says whether such a backslash is before these tokens.
  abbrev pub read_tokens : Bool → List Token → List Token
  read_tokens continued [] = []
  read_tokens continued (token.White ∷ es) =
      (if continued then [] else token.White ∷ []) ++ read_tokens continued es
  read_tokens continued (token.LineEnd line ∷ es) =
      (if continued then [] else token.LineEnd line ∷ []) ++ read_tokens false es
  read_tokens continued (e ∷ es) =
      let continues : Bool = ends_in_backslash texts e && ends_line es in
      (if continues && is_backslash e then [] else e ∷ []) ++ read_tokens continues es

  -- Not all tokens of a macro are written: those at its end are not if none of their items is.

  abbrev pub is_dropped_token : Token → Bool
  is_dropped_token e = list_all (is_dropped_at_end texts) (unmarked_items (e ∷ []))

  abbrev pub with_written : Token → List Token → List Token
  with_written e [] = if is_dropped_token e then [] else e ∷ []
  with_written e (f ∷ es) = e ∷ f ∷ es

  abbrev pub written_tokens : List Token → List Token
  written_tokens [] = []
  written_tokens (e ∷ es) = with_written e (written_tokens es)

  -- The author keeps two items apart, and the compiler would read other tokens without white space
  -- between them, or the first item ends the name of a macro.
  abbrev pub needs_white : Bool → List ℕ → Option Token → Token → Bool
  needs_white in_name meant before f =
      not (is_empty meant) && has_blank_at_line_end texts in_name before (Some f)

  -- what is written for a token, if `used` gives what is written for uses and @h
  abbrev pub token_bytes : (Token → List ℕ) → Token → List ℕ
  token_bytes used (token.Span kind s) = span_text texts s
  token_bytes used (token.AsciiConstant value line) = decimal value
  token_bytes used (token.QuoteBreak line) = line_feed ∷ []
  token_bytes used e = used e

  -- The bytes are those of the items in their order, with gaps between them that the compiler reads
  -- as the author means them. `line_end` is how a line end is meant. `in_name`: all items so far
  -- are the name of a macro. `meant`: what is meant between the item before and the next one.
  -- `AtEnd` is true of the last item, of what is meant after it, and of the bytes after it.
  module _ (mark : Origin → List ℕ) (used : Token → List ℕ) (line_end : ℕ)
      (AtEnd : Option Token → List ℕ → List ℕ → Type 0) where
    abbrev pub AreReadAsMeant : Bool → List ℕ → Option Token → List Token → List ℕ → Type 0
    AreReadAsMeant in_name meant before [] bytes = AtEnd before meant bytes
    AreReadAsMeant in_name meant before (token.White ∷ es) bytes =
        AreReadAsMeant in_name (meant ++ space ∷ []) before es bytes
    AreReadAsMeant in_name meant before (token.LineEnd line ∷ es) bytes =
        AreReadAsMeant in_name (meant ++ line_end ∷ []) before es bytes
    AreReadAsMeant in_name meant before (e ∷ es) bytes =
        (gap : List Gap) × (rest : List ℕ)
        × (bytes ≡ gap_bytes mark gap ++ (token_bytes used e ++ rest))
        × IsReadAs meant (as_read (is_continued texts before) gap)
        (needs_white in_name meant before e)
        × AreReadAsMeant (in_name && is_empty meant && is_name_part e) [] (Some e) es rest

  -- A line feed after the last item ends a macro. The compiler takes it out only after a verbatim
  -- text: one that the author ended in a backslash, or one without bytes directly after a
  -- backslash.
  pub record EndsMacro (before : Option Token) (meant bytes : List ℕ) : Type 0 where
    pub line_feed : bytes ≡ line_feed ∷ []
    pub stays : IfSome before (λ e. is_dropped_token e ≡ false)

  -- The bytes of a macro that has these tokens. None of its line ends is read as one.
  abbrev pub IsMacroReadAsMeant : List Token → List ℕ → Type 0
  IsMacroReadAsMeant tokens bytes =
      (rest : List ℕ) × (bytes ≡ codes "#define " ++ rest)
      × AreReadAsMeant (λ origin. []) (λ e. []) space EndsMacro
      true [] None (written_tokens tokens) rest

  -- After the last item of a piece is a gap, and then the slash of the closing mark. If nothing of
  -- the gap is read, nothing is there, and the item does not end in a slash.
  pub record EndsPiece (mark : Origin → List ℕ) (before : Option Token) (meant bytes : List ℕ)
      : Type 0 where
    pub gap : List Gap
    pub is : bytes ≡ gap_bytes mark gap
    pub lines : without_spaces (as_read (is_continued texts before) gap) ≡ without_spaces meant
    pub closing : is_empty (as_read (is_continued texts before) gap) ≡ true
        → (gap ≡ []) × (is_open texts before ≡ false)

module _ (lines : List SourceLine) where
  -- What is written for the items of a piece that has these tokens, if these are written for uses,
  -- for marks after their first line feed, and for all macros. The mark after a use or @h belongs
  -- to it.
  module _ (used : ℕ → List ℕ) (mark : Origin → List ℕ) (macros : List ℕ) where
    abbrev pub use_bytes : Token → List ℕ
    use_bytes (token.UseOf line occurrence) =
        space ∷ (used occurrence ++ line_feed ∷ mark (origin_at lines line))
    use_bytes (token.AllMacros line) =
        line_feed ∷ (macros ++ line_feed ∷ mark (origin_at lines line))
    use_bytes _ = []

    abbrev pub IsPieceReadAsMeant : List Token → List ℕ → Type 0
    IsPieceReadAsMeant tokens bytes =
        AreReadAsMeant (texts_of lines) mark use_bytes line_feed (EndsPiece (texts_of lines) mark)
        false [] None (read_tokens (texts_of lines) false tokens) bytes

  -- the tokens of the pieces and of the macros after rules 1 and 2, in order, in macros without the
  -- backslashes before line ends

  abbrev pub all_piece_tokens : List (List Token)
  all_piece_tokens =
      flat_map (λ b. map (λ p. part_tokens (texts_of lines) b.tokens) (piece_of lines b))
      (blocks 0 (all_tokens lines))

  abbrev pub all_macro_tokens : List (List Token)
  all_macro_tokens =
      flat_map (λ b. map (λ items. without_backslashes (texts_of lines)
      (macro_tokens (texts_of lines) b.tokens)) (macro_of lines b)) (blocks 0 (all_tokens lines))

-- a C compiler reads the items of each macro and piece as the author means them, whatever is
-- written for uses, line marks and all macros
pub record ItemsAreReadAsMeant (source : SourceRead) (web : WebRead) : Type 0 where
  pub macros : AllZip
      (λ items tokens. IsMacroReadAsMeant web.texts tokens (macro_bytes web.texts items))
      web.macros (all_macro_tokens source.lines)
  pub pieces : (used : ℕ → List ℕ) (mark : Origin → List ℕ) (macros : List ℕ) → AllZip
      (λ p tokens. IsPieceReadAsMeant source.lines used mark macros tokens
      (flat_map (piece_item_bytes web.texts used mark macros) p.items))
      web.pieces (all_piece_tokens source.lines)
