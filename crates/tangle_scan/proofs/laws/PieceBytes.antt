-- The bytes in the spans of the pieces are the bytes that the segments of C parts keep.
use Rattle.std.proofs.lemmas.Bool.Decides.{nat_tests}
use Rattle.std.proofs.Common.{rules}
use Rattle.std.proofs.Common.{◌≡◌, ◌≤◌, ℕ, ◌+◌, ◌-◌, zero, suc, Option, subst, true, false, List, [], ◌∷◌, ◌++◌, length}
use Rattle.std.proofs.Common.{flat_map, refl, ap, sym, ◌∙◌, arith, append_assoc, append-nil, Some, None}
use Rattle.std.specs.List.{All, AllPairs}
use Rattle.std.proofs.lemmas.List.Elements.{All-nil}
use Rattle.tangle_lines.specs.Reading.{SourceLine, SourceRead}
use Rattle.tangle_lexer.specs.declared.tokens.Token.{Token}
use Rattle.tangle_lexer.specs.declared.tokens.Token.TheVariants as token
use Rattle.tangle_text.specs.declared.spans.Span.{Span}
use Rattle.tangle_text.specs.Text.{text_from, texts_of}
use Rattle.tangle_lexer.specs.Steps.{first_state, tokens_from, all_tokens}
use Rattle.tangle_lexer.specs.Segments.{columns_from, span_points, kept_points}
use Rattle.tangle_lexer.specs.Segments.{all_segments}
use Rattle.tangle_scan.specs.Web.{web_of, Block, blocks, section_after, piece_of}
use Rattle.tangle_lexer.specs.LinesOfParts.{body}
use Rattle.tangle_scan.specs.Web.BlockKind.{OfPiece}
use Rattle.tangle_scan.specs.ItemSpans.{item_spans}
use Rattle.tangle_scan.specs.KeptBytes.{IsEarlier, KeepsEachByte}
use Rattle.tangle_lexer.proofs.laws.Points.{Point, point_at, text-is}
use Rattle.tangle_lexer.proofs.laws.KeptBytes.{part_points, segments-are}
use Rattle.tangle_scan.proofs.laws.ItemSpans.{token_spans, part-spans}
use Rattle.tangle_scan.proofs.laws.SpanOrder.{AreFrom, in-order, flat_map-twice, pieces-from, macros-from}

abbrev points_of : List Span → List (ℕ × ℕ)
points_of ss = flat_map span_points ss

module _ (lines : List SourceLine) where
  -- the points of the spans of a block, if the block is a C part
  abbrev block_points : Block → List (ℕ × ℕ)
  block_points b = points_of (flat_map (λ p. item_spans p.items) (piece_of lines b))

  abbrev blocks_points : ℕ → List Token → List (ℕ × ℕ)
  blocks_points n es = flat_map block_points (blocks n es)

  -- A C part has the spans of the tokens up to the next head. So if the tokens begin inside a C part, these spans come
  -- first, and those of the blocks after them.
  record Split (n : ℕ) (es : List Token) : Type 0 where
    outside : part_points false es ≡ blocks_points n es
    inside : part_points true es ≡ points_of (token_spans (body es)) ++ blocks_points n es

  -- a C part that these tokens begin inside of
  piece-first : (n : ℕ) (occurrence : Option ℕ) (line : ℕ) (es : List Token) → Split n es → part_points true es
      ≡ block_points (record { section = n; kind = OfPiece occurrence line; tokens = body es }) ++ blocks_points n es
  piece-first n occurrence line es rest = grind (arith, nat_tests, append-nil, part-spans, rest.inside)

  split-blocks : (n : ℕ) (es : List Token) → Split n es
  split-blocks n [] = record { outside = refl; inside = refl }
  split-blocks n (token.UnnamedPart line ∷ es) = search (rules, piece-first n None line es (split-blocks n es))
  split-blocks n (token.NamedPart line occurrence ∷ es) =
      search (rules, piece-first n (Some occurrence) line es (split-blocks n es))
  split-blocks n (e ∷ es) =
      let rest = split-blocks (section_after n e) es in search (rules, append_assoc, rest.inside)

-- the bytes of the spans in C parts are those in the spans of the pieces
pieces-kept : (source : SourceRead)
    → flat_map span_points (flat_map (λ p. item_spans p.items) (web_of source).pieces)
    ≡ flat_map kept_points (all_segments source.lines)
unfolding tokens_from
pieces-kept source =
    let lines = source.lines in
    ap points_of (flat_map-twice (λ p. item_spans p.items) (piece_of lines) (blocks 0 (all_tokens lines)))
    ∙ flat_map-twice span_points (λ b. flat_map (λ p. item_spans p.items) (piece_of lines b))
    (blocks 0 (all_tokens lines))
    ∙ sym (split-blocks lines 0 (all_tokens lines)).outside
    ∙ (segments-are (texts_of lines) 0 (first_state (length lines)) (text_from 0 lines) (point_at 0 0) (text-is lines)).kept

-- Since the spans are in order, their bytes are.

-- a byte is at a point or after it
abbrev IsFromOn : Point → ℕ × ℕ → Type 0
IsFromOn a q = (a.line ≤ q.0) × (a.line ≡ q.0 → a.column ≤ q.1)

-- bytes are in order from a point on
abbrev AreFromOn : Point → List (ℕ × ℕ) → Type 0
AreFromOn a qs = All (IsFromOn a) qs × AllPairs IsEarlier qs

columns-from_on : (line column n : ℕ) (qs : List (ℕ × ℕ)) → AreFromOn (point_at line (column + n)) qs
    → AreFromOn (point_at line column) (columns_from line column n ++ qs)
columns-from_on line column zero qs h = subst (λ x. AreFromOn (point_at line x) qs) (omega arith) h
columns-from_on line column (suc n) qs h = grind (arith, columns-from_on line (column + 1) n qs)

points-from_on : (texts : List (List ℕ)) (a : Point) (ss : List Span) → AreFrom texts a ss → AreFromOn a (points_of ss)
points-from_on texts a [] h = (All-nil (IsFromOn a), λ i j d k l. absurd (omega arith))
points-from_on texts a (s ∷ ss) h =
    let sum : s.start + (s.end - s.start) ≡ s.end = omega (arith, h.0.1.start) in
    let rest = points-from_on texts (point_at s.line s.end) ss h.1 in
    let all = columns-from_on s.line s.start (s.end - s.start) (points_of ss) (rw sum rest) in
    grind (arith, all)

-- No byte of a C part is lost: the law.
pub web-keeps-bytes : (source : SourceRead) → KeepsEachByte source (web_of source)
web-keeps-bytes source =
    let lines = source.lines in
    let texts = texts_of lines in
    let law = segments-are texts 0 (first_state (length lines)) (text_from 0 lines) (point_at 0 0) (text-is lines) in
    record {
      filled = law.filled;
      kinds = law.shown;
      kept = pieces-kept source;
      once = (points-from_on texts (point_at 0 0) _ (pieces-from lines)).1;
      pieces = in-order texts (point_at 0 0) _ (pieces-from lines);
      macros = in-order texts (point_at 0 0) _ (macros-from lines);
    }
