-- The tokens of a source, of its pieces and of its macros are texts, one after another.
use Rattle.tangle_c_tokens.proofs.kind_lemmas.TableKinds.{same_table}
use Rattle.std.proofs.Common.{rules}
use Rattle.std.proofs.Common.{arith}
use Rattle.std.proofs.Common.{◌≡◌, ℕ, true, List, [], ◌∷◌, ◌++◌, refl, map, flat_map, Option}
use Rattle.std.specs.Prelude.{filter}
use Rattle.tangle_names.specs.NameTable.{TableRead}
use Rattle.tangle_bodies.specs.Shapes.{Title}
use Rattle.tangle_bodies.specs.WebShapes.{is_piece_of}
use Rattle.tangle_c_tokens.specs.Pieces.{Passage, row_of_piece}
use Rattle.tangle_c_tokens.specs.Files.{node_row}
use Rattle.std.specs.List.{AllByRecursion, list_all}
use Rattle.std.proofs.lemmas.Bool.{cond_both}
use Rattle.tangle_lines.specs.Reading.{SourceLine, origin_at}
use Rattle.tangle_scan.specs.declared.items.Item.{Item}
use Rattle.tangle_text.specs.Text.{texts_of, text_from}
use Rattle.tangle_lexer.specs.declared.tokens.Token.{Token}
use Rattle.tangle_lexer.specs.Steps.{tokens_from, all_tokens}
use Rattle.tangle_scan.specs.Rules.{without_faults, macro_tokens, macro_items, is_macro, without_backslashes}
use Rattle.tangle_scan.specs.Rules.{part_tokens, part_items}
use Rattle.tangle_lexer.specs.LinesOfParts.{body}
use Rattle.tangle_scan.specs.Web.{PieceRead, Block, BlockKind, section_after, blocks, piece_of, kind_piece, macro_of}
use Rattle.tangle_scan.specs.Web.{kind_macro}
use Rattle.tangle_scan.specs.Web.BlockKind.{OfMacro, OfPiece}
use Rattle.tangle_scan.specs.ReadAsMeant.{all_piece_tokens, all_macro_tokens}
use Rattle.tangle_c_tokens.specs.Kinds.{is_range, AreTexts}
use Rattle.tangle_c_tokens.specs.LineFeeds.{SourceLinesHaveNoLineFeed}
use Rattle.tangle_c_tokens.proofs.kind_lemmas.Lines.{lines-clear}
use Rattle.tangle_lexer.proofs.laws.Points.{point_at, text-is}
use Rattle.tangle_c_tokens.proofs.kind_lemmas.Texts.{texts-by}
use Rattle.tangle_c_tokens.proofs.kind_lemmas.LexemeTexts.{lexemes-whole}
use Rattle.tangle_c_tokens.proofs.kind_lemmas.RuleTexts.{body-texts, part-texts, macro-texts}
use Rattle.tangle_c_tokens.proofs.kind_lemmas.RuleTexts.{backslashes-texts}
use Rattle.tangle_c_tokens.proofs.kind_lemmas.MacroNames.{kept-name}
use Rattle.std.proofs.lemmas.Bool.Decides.{nat_tests}

pub source_texts : (lines : List SourceLine) → SourceLinesHaveNoLineFeed lines
    → AreTexts (texts_of lines) (without_faults (all_tokens lines))
unfolding tokens_from
source_texts lines none =
    lexemes-whole (texts_of lines) (lines-clear lines none) 0 _ (point_at 0 0) (text_from 0 lines) (text-is lines)

body-faults : (ts : List Token) → body (without_faults ts) ≡ without_faults (body ts)
body-faults [] = refl
body-faults (t ∷ ts) = search (rules, body-faults ts)

module _ (texts : List (List ℕ)) where
  -- each block has texts
  abbrev pub HaveTexts : List Block → Type 0
  HaveTexts bs = AllByRecursion (λ b. AreTexts texts (without_faults b.tokens)) bs

  -- the same of tokens without faults
  abbrev HaveBodies : ℕ → List Token → Type 0
  HaveBodies n ts = AllByRecursion (λ b. AreTexts texts b.tokens) (blocks n ts)

  bodies-texts : (ts : List Token) → AreTexts texts ts → (n : ℕ) → HaveBodies n ts
  bodies-texts =
      texts-by texts (λ ts. (n : ℕ) → HaveBodies n ts) (λ n. tt)
      (λ t ts alone kind all made n. let own = body-texts texts ts all in search (rules, made))
      (λ t part ts quoted all made n. by (t ∷ part) ts n quoted.ranges (made n))
    where
      by : (part ts : List Token) (n : ℕ) → list_all is_range part ≡ true → HaveBodies n ts → HaveBodies n (part ++ ts)
      by [] ts n ranges made = made
      by (t ∷ part) ts n ranges made = grind (arith, nat_tests, by part ts n)

  blocks-texts : (n : ℕ) (ts : List Token) → HaveBodies n (without_faults ts) → HaveTexts (blocks n ts)
  blocks-texts n [] all = tt
  blocks-texts n (t ∷ ts) all = grind (arith, nat_tests, body-faults ts, blocks-texts n ts, blocks-texts (section_after n t) ts)

-- What is true of no macros and of one more, with its tokens, is true of all macros. The same of pieces.
module _ (lines : List SourceLine) where
  abbrev texts : List (List ℕ)
  texts = texts_of lines

  pub blocks-have : SourceLinesHaveNoLineFeed lines → HaveTexts texts (blocks 0 (all_tokens lines))
  blocks-have none = search (rules, blocks-texts, bodies-texts, source_texts)

  abbrev pub macro_tokens_of : Block → List Token
  macro_tokens_of b = without_backslashes texts (macro_tokens texts b.tokens)

  pub macros-by : (P : List (List Item) → List (List Token) → Type 0) → P [] []
      → ((b : Block) (macros : List (List Item)) (tokens : List (List Token)) → AreTexts texts (macro_tokens_of b) → P macros tokens
      → P (macro_items texts b.tokens ∷ macros) (macro_tokens_of b ∷ tokens)) → (bs : List Block) → HaveTexts texts bs
      → P (flat_map (macro_of lines) bs) (flat_map (λ b. map (λ items. macro_tokens_of b) (macro_of lines b)) bs)
  macros-by P none more [] all = none
  macros-by P none more (b ∷ bs) all = by b.kind _ _ (macros-by P none more bs all.1)
    where
      by : (kind : BlockKind) (rest : List (List Item)) (tokens : List (List Token)) → P rest tokens
          → P (kind_macro lines kind b ++ rest) (map (λ items. macro_tokens_of b) (kind_macro lines kind b) ++ tokens)
      by (OfPiece occurrence line) rest tokens h = h
      by (OfMacro line) rest tokens h =
          cond_both (is_macro texts (macro_items texts b.tokens)) (macro_items texts b.tokens ∷ []) []
          (λ ms. P (ms ++ rest) (map (λ items. macro_tokens_of b) ms ++ tokens))
          (λ e. more b rest tokens
          (backslashes-texts texts _ (macro-texts texts b.tokens all.0 (kept-name texts b.tokens e))) h) (λ e. h)

  abbrev pub piece_at : Block → Option ℕ → ℕ → PieceRead
  piece_at b occurrence line = record {
    section = b.section;
    origin = origin_at lines line;
    occurrence = occurrence;
    items = part_items lines line b.tokens;
  }

  pub pieces-by : (P : List PieceRead → List (List Token) → Type 0) → P [] []
      → ((b : Block) (occurrence : Option ℕ) (line : ℕ) (pieces : List PieceRead) (tokens : List (List Token))
      → AreTexts texts (part_tokens texts b.tokens) → P pieces tokens
      → P (piece_at b occurrence line ∷ pieces) (part_tokens texts b.tokens ∷ tokens))
      → (bs : List Block) → HaveTexts texts bs
      → P (flat_map (piece_of lines) bs) (flat_map (λ b. map (λ p. part_tokens texts b.tokens) (piece_of lines b)) bs)
  pieces-by P none more [] all = none
  pieces-by P none more (b ∷ bs) all = by b.kind _ _ (pieces-by P none more bs all.1)
    where
      by : (kind : BlockKind) (rest : List PieceRead) (tokens : List (List Token)) → P rest tokens
          → P (kind_piece lines kind b ++ rest) (map (λ p. part_tokens texts b.tokens) (kind_piece lines kind b) ++ tokens)
      by (OfMacro line) rest tokens h = h
      by (OfPiece occurrence line) rest tokens h = more b occurrence line rest tokens (part-texts texts b.tokens all.0) h

  -- the same of the pieces of a node, and of their row
  pub node-by : (table : TableRead) (node : Title) (P : List Passage → List PieceRead → Type 0) → P [] []
      → ((b : Block) (occurrence : Option ℕ) (line : ℕ) (row : List Passage) (pieces : List PieceRead)
      → AreTexts texts (part_tokens texts b.tokens) → P row pieces
      → P (row_of_piece texts (piece_at b occurrence line) (part_tokens texts b.tokens) ++ row)
      (piece_at b occurrence line ∷ pieces))
      → SourceLinesHaveNoLineFeed lines → let pieces : List PieceRead = flat_map (piece_of lines)
      (blocks 0 (all_tokens lines)) in
      P (node_row texts table node pieces (all_piece_tokens lines)) (filter (is_piece_of table node) pieces)
  node-by table node P none more clear =
      pieces-by (λ pieces tokens. P (node_row texts table node pieces tokens)
      (filter (is_piece_of table node) pieces)) none
      (λ b occurrence line pieces tokens are p.
      let row = node_row texts table node pieces tokens in
      let own = more b occurrence line row (filter (is_piece_of table node) pieces) are p in
      grind (arith, own, p))
      (blocks 0 (all_tokens lines)) (blocks-have clear)

  pub pieces_texts : SourceLinesHaveNoLineFeed lines → AllByRecursion (AreTexts texts) (all_piece_tokens lines)
  pieces_texts none =
      pieces-by (λ pieces tokens. AllByRecursion (AreTexts texts) tokens) tt
      (λ b occurrence line pieces tokens are all. (are, all)) (blocks 0 (all_tokens lines)) (blocks-have none)

  pub macros_texts : SourceLinesHaveNoLineFeed lines → AllByRecursion (AreTexts texts) (all_macro_tokens lines)
  macros_texts none =
      macros-by (λ macros tokens. AllByRecursion (AreTexts texts) tokens) tt
      (λ b macros tokens are all. (are, all)) (blocks 0 (all_tokens lines)) (blocks-have none)

pub ruleset are_of_kinds = (same_table, source_texts, pieces_texts, macros_texts)
