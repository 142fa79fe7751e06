-- The bytes of the segments that are kept are those in the spans of the tokens of C parts.
use Rattle.std.proofs.Common.{rules}
use Rattle.std.proofs.lemmas.Bool.Decides.{nat_tests}
use Rattle.std.proofs.Common.{◌≡◌, ℕ, zero, suc, ◌+◌, Bool, true, false, List, [], ◌∷◌, ◌++◌, take, drop}
use Rattle.std.proofs.Common.{flat_map, map, refl, arith, append_assoc, append-nil}
use Rattle.std.proofs.Common.{if◌then◌else◌}
use Rattle.tangle_faults.specs.declared.faults.FaultKind.{FaultKind}
use Rattle.tangle_lexer.specs.declared.tokens.Token.{Token}
use Rattle.tangle_lexer.specs.declared.tokens.Token.TheVariants as token
use Rattle.tangle_lexer.specs.declared.modes.Mode.{Mode}
use Rattle.tangle_lexer.specs.declared.modes.Mode.TheVariants as mode
use Rattle.tangle_lexer.specs.declared.modes.LexerState.{LexerState}
use Rattle.tangle_lexer.specs.declared.lexeme_kinds.ControlCode.TheVariants as code
use Rattle.tangle_lexer.specs.declared.lexeme_kinds.LexemeKind.{LexemeKind}
use Rattle.tangle_lexer.specs.declared.lexeme_kinds.LexemeKind.TheVariants as lexeme_kind
use Rattle.tangle_text.specs.declared.regions.Region.{Region}
use Rattle.tangle_text.specs.declared.regions.Region.TheVariants as region
use Rattle.tangle_text.specs.Text.{Cell, byte_at, span_at}
use Rattle.tangle_text.specs.Regions.{count_before}
use Rattle.tangle_text.specs.Words.{word_more}
use Rattle.tangle_lexer.specs.Lexemes.{Lexeme, fault_if, is_c_part}
use Rattle.tangle_lexer.specs.Comments.{line_ends}
use Rattle.tangle_lexer.specs.LinesOfC.{inner_end_in}
use Rattle.tangle_lexer.specs.CText.{kind_at}
use Rattle.tangle_lexer.specs.Steps.{c_lexeme, lexeme, lexemes}
use Rattle.tangle_lexer.specs.Segments.{Segment, segment, span_points}
use Rattle.tangle_lexer.specs.Segments.{c_segments, segments_in, segments}
use Rattle.tangle_lexer.specs.Heads.{is_head}
use Rattle.tangle_lexer.proofs.lemmas.PlainTokens.{HasNone}
use Rattle.tangle_lexer.proofs.laws.SegmentKinds.{AreSegments, segments-append, verbatim-are, same-points, one-segment, text-are}
use Rattle.tangle_lexer.proofs.laws.SegmentKinds.{bytes-shows, white-shows, block_comment-shows, line_comment-shows}
use Rattle.tangle_lexer.proofs.laws.SegmentKinds.{control_text-shows, name-shows, constant-shows}
use Rattle.tangle_lexer.specs.Segments.SegmentKind.{Kept, WhiteSpace, AsciiConstant}
use Rattle.std.proofs.lemmas.List.{take-append-drop}
use Rattle.tangle_lexer.proofs.lemmas.HeadLemmas.{lexeme-alone}
use Rattle.tangle_lexer.proofs.lemmas.BlockLemmas.{no-head}
use Rattle.tangle_lexer.proofs.lemmas.LexemeCases.{OpensLexeme, kind-opens}
use Rattle.tangle_lexer.proofs.lemmas.StepLemmas.{lexeme-here}
use Rattle.tangle_lexer.proofs.laws.Points.{Point, after_cell, HoldsBytes, IsTextAt, text-after}
use Rattle.tangle_lexer.proofs.laws.RegionOrder.{some-byte, code-bytes}
use Rattle.tangle_lexer.proofs.laws.WhiteOrder.{word-bytes}
use Rattle.tangle_lexer.proofs.laws.SegmentPoints.{token_points, fault-points, points-append, bytes-columns}
use Rattle.tangle_lexer.proofs.laws.CutTexts.{double_quote-cut, apostrophe-cut, header_name-cut}
use Rattle.tangle_lexer.proofs.laws.KeptText.{quoted-keeps, verbatim-keeps}

-- the points of the spans of tokens in C parts; the flag says whether the first token is in one
abbrev pub part_points : Bool → List Token → List (ℕ × ℕ)
part_points within [] = []
part_points within (token.Section ∷ us) = part_points false us
part_points within (token.MacroStart line ∷ us) = part_points false us
part_points within (token.UnnamedPart line ∷ us) = part_points true us
part_points within (token.NamedPart line occurrence ∷ us) = part_points true us
part_points within (token.Span kind s ∷ us) = (if within then span_points s else []) ++ part_points within us
part_points within (_ ∷ us) = part_points within us

-- tokens without heads are in one part, or outside of all
part_points-plain : (within : Bool) (ts us : List Token) → HasNone is_head ts
    → part_points within (ts ++ us) ≡ (if within then token_points ts else []) ++ part_points within us
part_points-plain x [] us h = search rules
part_points-plain within (t ∷ ts) us h = grind (arith, part_points-plain within ts us, append_assoc)

-- The points of a lexeme, and of the tokens after it: each counts only if it is in a C part.
lexeme-points : (s : LexerState) (text : List Cell) (us : List Token) → part_points (is_c_part s.mode) ((lexeme s text).tokens ++ us)
    ≡ (if is_c_part s.mode then token_points (lexeme s text).tokens else [])
    ++ part_points (is_c_part (lexeme s text).after.mode) us
lexeme-points s text us =
    grind (arith, nat_tests, lexeme-alone s text, part_points-plain, no-head)

-- tokens without a span have no points

points-flat : (f : List Cell → List Token)
    → ((u : List Cell) → token_points (f u) ≡ []) → (us : List (List Cell)) → token_points (flat_map f us) ≡ []
points-flat f h [] = refl
points-flat f h (u ∷ us) = rw (points-append (f u) (flat_map f us), h u) (points-flat f h us)

inner-points : (b : Bool) (ts : List Token) → token_points (map (inner_end_in b) ts) ≡ token_points ts
inner-points b [] = refl
inner-points b (t ∷ ts) = grind (arith, inner-points b ts)

-- white space, line ends and the fault of a comment or control text have no points
white-points : (r : Region) (text : List Cell) (inner b : Bool) (kind : FaultKind) (line : ℕ)
    → token_points (token.White ∷ map (inner_end_in inner) (line_ends r text) ++ fault_if b kind line) ≡ []
white-points r text inner b kind line = search (rules, points-append, inner-points, points-flat)

module _ (texts : List (List ℕ)) where
  -- the points of a span are those of its bytes, which are kept
  span-are : (at : Point) (n : ℕ) (c : Cell) (cs : List Cell) → IsTextAt texts at (c ∷ cs) → HoldsBytes n (c ∷ cs)
      → AreSegments (segment Kept (take n (c ∷ cs)) ∷ []) (take n (c ∷ cs)) (span_points (span_at n (c ∷ cs)) ++ [])
  span-are at n c cs is h =
      same-points _ _ _ _ (one-segment Kept (take n (c ∷ cs)) (bytes-shows n (c ∷ cs) h)) (grind (arith, nat_tests, bytes-columns))

  -- the bytes in the spans of a lexeme's tokens are those that its segments keep
  kind-are : (kind : LexemeKind) (s : LexerState) (at : Point) (c : Cell) (cs : List Cell)
      → IsTextAt texts at (c ∷ cs) → OpensLexeme kind (c ∷ cs) → let here : Lexeme = c_lexeme kind s (c ∷ cs) in
      AreSegments (c_segments kind (1 + here.more) (c ∷ cs)) (take (1 + here.more) (c ∷ cs)) (token_points here.tokens)
  kind-are (lexeme_kind.Control code.Verbatim) s at c cs is o =
      same-points _ _ _ _ (verbatim-are (c ∷ cs) o.0) (verbatim-keeps texts _ (drop 1 cs)
      (text-after texts 2 at (c ∷ cs) is (code-bytes code.Verbatim (c ∷ cs) (λ e. cc) o)))
  kind-are (lexeme_kind.Control code.AsciiConstant) s at c cs is o =
      same-points _ _ _ _ (one-segment AsciiConstant _ (constant-shows s c cs o)) (search rules)
  kind-are lexeme_kind.White s at c cs is o =
      let n : ℕ = count_before region.White cs in
      let more : 1 + n ≡ suc n = omega arith in
      rw more (one-segment WhiteSpace (take (suc n) (c ∷ cs)) (o, white-shows cs))
  kind-are lexeme_kind.Word s at c cs is o =
      span-are at (1 + word_more (c ∷ cs)) c cs is (word-bytes c cs (some-byte c.byte o.0))
  kind-are lexeme_kind.Other s at c cs is o = span-are at 1 c cs is (some-byte c.byte o.0, tt)
  kind-are (lexeme_kind.Control kind) s at c cs is o = first_of (
    grind (arith, nat_tests),
    search (rules, same-points, one-segment, points-append, white-points, fault-points, control_text-shows, name-shows),
  )
  kind-are lexeme_kind.BlockComment s at c cs is o =
      search (rules, same-points, one-segment, white-points, block_comment-shows)
  kind-are lexeme_kind.LineComment s at c cs is o =
      search (rules, same-points, one-segment, fault-points, line_comment-shows)
  kind-are lexeme_kind.LineEnd s at c cs is o = search (rules, one-segment)
  kind-are _ s at c cs is o =
      same-points _ _ _ _ (text-are false _)
      (search (rules, quoted-keeps, double_quote-cut, apostrophe-cut, header_name-cut))

  lexeme-segments : (s : LexerState) (at : Point) (c : Cell) (cs : List Cell) → IsTextAt texts at (c ∷ cs)
      → let more : ℕ = (lexeme s (c ∷ cs)).more in
      AreSegments (segments_in s.mode s (1 + more) (c ∷ cs)) (take (1 + more) (c ∷ cs))
      (if is_c_part s.mode then token_points (lexeme s (c ∷ cs)).tokens else [])
  lexeme-segments s at c cs is = by s.mode refl
    where
      by : (m : Mode) → s.mode ≡ m → let more : ℕ = (lexeme s (c ∷ cs)).more in
          AreSegments (segments_in m s (1 + more) (c ∷ cs)) (take (1 + more) (c ∷ cs))
          (if is_c_part m then token_points (lexeme s (c ∷ cs)).tokens else [])
      by mode.CPart m =
          rw (lexeme-here s (c ∷ cs) (kind_at s.line.include (c ∷ cs)) m refl)
          (kind-are _ s at c cs is (kind-opens s.line.include c.byte (byte_at 0 cs)))
      by _ m = search (rules, append-nil)

  -- all lexemes: the points of the spans in C parts are those of the segments that are kept
  pub segments-are : (k : ℕ) (s : LexerState) (text : List Cell) (at : Point) → IsTextAt texts at text
      → AreSegments (segments k s text) (drop k text)
      (part_points (is_c_part s.mode) (flat_map (λ l. l.tokens) (lexemes k s text)))
  segments-are zero s [] at is = record { filled = refl; shown = tt; kept = refl }
  segments-are (suc k) s [] at is = record { filled = refl; shown = tt; kept = refl }
  segments-are (suc k) s (c ∷ cs) at is = segments-are k s cs (after_cell c) is.1
  segments-are zero s (c ∷ cs) at is =
      let here : Lexeme = lexeme s (c ∷ cs) in
      let first : List Segment = segments_in s.mode s (1 + here.more) (c ∷ cs) in
      let others : List Segment = segments here.more here.after cs in
      let all = segments-append first others _ _ _ _ (lexeme-segments s at c cs is)
      (segments-are here.more here.after cs (after_cell c) is.1) in
      search (rules, take-append-drop, lexeme-points)
