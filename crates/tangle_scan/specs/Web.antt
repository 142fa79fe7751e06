-- The web: the pieces, macros, occurrences and faults that the tokens of the whole text make.
use Rattle.std.specs.Prelude.{ℕ, ◌+◌, Bool, true, false, List, [], ◌∷◌, ◌++◌, map, flat_map}
use Rattle.std.specs.Prelude.{if◌then◌else◌, Option, Some, None}
use Rattle.std.specs.List.{list_any}
use Rattle.tangle_lines.specs.declared.origin.Origin.{Origin}
use Rattle.tangle_faults.specs.declared.faults.FaultKind.{FaultKind}
use Rattle.tangle_faults.specs.declared.faults.FaultKind.TheVariants as fault
use Rattle.tangle_faults.specs.Faults.{FaultRead, fault_at}
use Rattle.tangle_lines.specs.Reading.{SourceLine, SourceRead, place_of, origin_at}
use Rattle.tangle_files.specs.Lines.{FileTable}
use Rattle.tangle_scan.specs.declared.items.Item.{Item}
use Rattle.tangle_scan.specs.declared.pieces.Piece.{Piece}
use Rattle.tangle_lexer.specs.declared.tokens.Token.{Token}
use Rattle.tangle_lexer.specs.declared.tokens.Token.TheVariants as token
use Rattle.tangle_lexer.specs.Lexemes.{OccurrenceOnLine}
use Rattle.tangle_text.specs.declared.spans.Span.{Span}
use Rattle.tangle_text.specs.declared.runs.RunPart.{RunPart}
use Rattle.tangle_text.specs.Runs.{run_parts}
use Rattle.tangle_lexer.specs.Runs.{part_token}
use Rattle.tangle_lexer.specs.declared.tokens.SpanKind.TheVariants as span_kind
use Rattle.tangle_lexer.specs.Heads.{is_head}
use Rattle.tangle_lexer.specs.LinesOfParts.{body, is_between_items}
use Rattle.tangle_lexer.specs.Occurrences.{OccurrenceRead, occurrence_of}
use Rattle.tangle_lexer.specs.Steps.{all_tokens, all_occurrences}
use Rattle.tangle_scan.specs.RawStrings.{is_cut}
use Rattle.tangle_scan.specs.Rules.{texts_of, part_items, macro_items, is_macro}

-- a piece: a C part, with the number of its section, the origin of its opening mark, the number of
-- its name's occurrence if it has a name, and its items
pub record PieceRead : Type 0 where
  pub section : ℕ
  pub origin : Origin
  pub occurrence : Option ℕ
  pub items : List Item

abbrev pub no_piece : PieceRead
no_piece =
    record { section = 0; origin = record { file = 0; line = 0 }; occurrence = None; items = [] }

-- a piece as it is stored, without its items
abbrev pub stored_piece : PieceRead → Piece
stored_piece p = record { section = p.section; origin = p.origin; occurrence = p.occurrence }

-- a web, with the bytes of its source lines and the names of its files
pub record WebRead : Type 0 where
  pub texts : List (List ℕ)
  pub file_names : List (List ℕ)
  pub sections : ℕ
  pub pieces : List PieceRead
  pub macros : List (List Item)
  pub occurrences : List OccurrenceRead
  pub has_all_macros : Bool
  pub faults : List FaultRead

-- the C parts and macros

-- a macro, or a C part with the number of the occurrence that names it, if one does; and the line
-- on which its head ends
pub data BlockKind : Type 0 where
  OfMacro : ℕ → BlockKind
  OfPiece : Option ℕ → ℕ → BlockKind

-- a macro or a C part: the tokens from its head up to the next head, with the number of its section
pub record Block : Type 0 where
  pub section : ℕ
  pub kind : BlockKind
  pub tokens : List Token

-- the macro or the C part that a head begins, if it begins one
abbrev pub block_at : ℕ → Token → List Token → List Block
block_at section (token.MacroStart line) es =
    record { section = section; kind = OfMacro line; tokens = body es } ∷ []
block_at section (token.UnnamedPart line) es =
    record { section = section; kind = OfPiece None line; tokens = body es } ∷ []
block_at section (token.NamedPart line occurrence) es =
    record { section = section; kind = OfPiece (Some occurrence) line; tokens = body es } ∷ []
block_at section _ es = []

-- the number of the section that the text after a token is in
abbrev pub section_after : ℕ → Token → ℕ
section_after section token.Section = section + 1
section_after section _ = section

-- the C parts and macros in order, each with the number of its section; `section` is the number of
-- the section before these tokens
abbrev pub blocks : ℕ → List Token → List Block
blocks section [] = []
blocks section (e ∷ es) = block_at section e es ++ blocks (section_after section e) es

abbrev pub section_count : ℕ → List Token → ℕ
section_count section [] = section
section_count section (e ∷ es) = section_count (section_after section e) es

abbrev pub is_all_macros : Token → Bool
is_all_macros (token.AllMacros line) = true
is_all_macros _ = false

-- a C part with @h
abbrev pub kind_has_all_macros : BlockKind → List Token → Bool
kind_has_all_macros (OfMacro line) tokens = false
kind_has_all_macros (OfPiece occurrence line) tokens = list_any is_all_macros tokens

abbrev pub block_has_all_macros : Block → Bool
block_has_all_macros b = kind_has_all_macros b.kind b.tokens

-- from blocks to pieces and macros

module _ (lines : List SourceLine) where
  abbrev pub kind_piece : BlockKind → Block → List PieceRead
  kind_piece (OfMacro line) b = []
  kind_piece (OfPiece occurrence line) b =
      record {
        section = b.section;
        origin = origin_at lines line;
        occurrence = occurrence;
        items = part_items lines line b.tokens;
      } ∷ []

  -- the piece of a block, if the block is a C part
  abbrev pub piece_of : Block → List PieceRead
  piece_of b = kind_piece b.kind b

  abbrev pub kept_macro : List Item → List (List Item)
  kept_macro items = if is_macro (texts_of lines) items then items ∷ [] else []

  abbrev pub kind_macro : BlockKind → Block → List (List Item)
  kind_macro (OfMacro line) b = kept_macro (macro_items (texts_of lines) b.tokens)
  kind_macro (OfPiece occurrence line) b = []

  -- the macro of a block, if the block is a macro that is kept
  abbrev pub macro_of : Block → List (List Item)
  macro_of b = kind_macro b.kind b

-- the last token of these parts, or this one if there are none
abbrev pub last_of : Token → List RunPart → Token
last_of e [] = e
last_of e (p ∷ ps) = last_of (part_token p) ps

-- the last of the tokens that a token stands for
abbrev pub last_token : List (List ℕ) → Token → Token
last_token texts (token.Run s) = last_of token.White (run_parts texts s)
last_token texts e = e

abbrev pub word_of : Token → Option Span
word_of (token.Span span_kind.Word s) = Some s
word_of _ = None

-- the word with which a token ends, if it ends with one
abbrev pub word_at_end : List (List ℕ) → Token → Option Span
word_at_end texts e = word_of (last_token texts e)

-- the quoted text that begins next, or its first part; its own faults may be before it
abbrev pub quoted_ahead : List Token → Option Span
quoted_ahead (token.Fault kind line ∷ es) = quoted_ahead es
quoted_ahead (token.Span span_kind.Quoted s ∷ es) = Some s
quoted_ahead _ = None

module _ (files : FileTable) (lines : List SourceLine) where
  abbrev pub fault_on : FaultKind → ℕ → FaultRead
  fault_on kind line = fault_at kind (place_of files (origin_at lines line))

  -- the fault of a token that is a fault
  abbrev pub own_fault : Token → List FaultRead
  own_fault (token.Fault kind line) = fault_on kind line ∷ []
  own_fault _ = []

  -- the fault of a quoted text that is a raw string of C++ and is not whole, if there is a word
  -- directly before it
  abbrev pub raw_fault : Option Span → Option Span → List FaultRead
  raw_fault (Some word) (Some quoted) =
      if is_cut (texts_of lines) word quoted then fault_on fault.RawString quoted.line ∷ [] else []
  raw_fault word quoted = []

  -- the faults of these tokens; `word`: the word with which the token before them ends
  abbrev pub token_faults : Option Span → List Token → List FaultRead
  token_faults word [] = []
  token_faults word (e ∷ es) =
      (raw_fault word (quoted_ahead (e ∷ es)) ++ own_fault e)
      ++ token_faults (word_at_end (texts_of lines) e) es

  -- the faults of the tokens of a macro; a word that is its name makes no raw string
  abbrev pub macro_token_faults : List Token → List FaultRead
  macro_token_faults [] = []
  macro_token_faults (e ∷ es) =
      own_fault e ++ (if is_between_items e then macro_token_faults es else token_faults None es)

  -- the fault of a macro with these tokens, if it is dropped; it is on the line of its @d
  abbrev pub macro_fault : ℕ → List Token → List FaultRead
  macro_fault line es =
      if is_macro (texts_of lines) (macro_items (texts_of lines) es) then []
      else fault_on fault.MacroName line ∷ []

  -- the faults of a head and of the tokens after it
  abbrev pub block_faults : Token → List Token → List FaultRead
  block_faults (token.MacroStart line) es = macro_fault line es ++ macro_token_faults es
  block_faults head es = token_faults None es

  -- the faults of the heads among these tokens, and of what is after each
  abbrev pub head_faults : List Token → List FaultRead
  head_faults [] = []
  head_faults (e ∷ es) = (if is_head e then block_faults e (body es) else []) ++ head_faults es

  -- the faults in the order of the text
  abbrev pub scan_faults : List Token → List FaultRead
  scan_faults es = token_faults None (body es) ++ head_faults es

-- the web of a source with these tokens and occurrences
abbrev pub web_with : SourceRead → List Token → List OccurrenceOnLine → WebRead
web_with source tokens occurrences = record {
  texts = texts_of source.lines;
  file_names = map (λ f. f.0) source.files;
  sections = section_count 0 tokens;
  pieces = flat_map (piece_of source.lines) (blocks 0 tokens);
  macros = flat_map (macro_of source.lines) (blocks 0 tokens);
  occurrences = map (occurrence_of source.lines) occurrences;
  has_all_macros = list_any block_has_all_macros (blocks 0 tokens);
  faults = scan_faults source.files source.lines tokens;
}

-- the web of a source
abbrev pub web_of : SourceRead → WebRead
web_of source = web_with source (all_tokens source.lines) (all_occurrences source.lines)
