-- The ranges of quoted and verbatim texts have all bytes of these texts but the second @ of each @@.
use Rattle.std.proofs.Common.{rules}
use Rattle.std.proofs.lemmas.Bool.Decides.{nat_tests}
use Rattle.std.proofs.Common.{◌≡◌, ℕ, ◌+◌, ◌≤◌, Bool, true, false, not, List, [], ◌∷◌, ◌++◌, take, drop}
use Rattle.std.proofs.Common.{Option, arith, ◌==◌, ◌&&◌}
use Rattle.std.proofs.Common.{append_assoc, append-nil, flat_map}
use Rattle.std.proofs.Math.Seq.{take-add}
use Rattle.tangle_lexer.specs.declared.tokens.Token.{Token}
use Rattle.tangle_lexer.specs.declared.modes.LexerState.{LexerState}
use Rattle.tangle_text.specs.declared.regions.Region.{Region}
use Rattle.tangle_text.specs.declared.regions.Region.TheVariants as region
use Rattle.tangle_lines.specs.Bytes.{at_sign}
use Rattle.tangle_text.specs.Bytes.{holds}
use Rattle.tangle_text.specs.Text.{Cell, byte_at}
use Rattle.tangle_text.specs.Regions.{count_before}
use Rattle.tangle_lexer.specs.Quoted.{cut_tokens, quote_end, one_if, quoted_text}
use Rattle.tangle_lexer.specs.Quoted.{verbatim_end, empty_text, verbatim_tokens}
use Rattle.tangle_lexer.specs.Segments.{kept_points, byte_points, text_segments}
use Rattle.tangle_lexer.proofs.laws.Points.{Point, point_at, IsByte, IsTextAt, text-next, text-column}
use Rattle.tangle_lexer.proofs.laws.CutTexts.{IsCut, verbatim-cut, cut-by}
use Rattle.tangle_lexer.proofs.laws.SegmentPoints.{columns_to, columns-next, columns-nothing, token_points}
use Rattle.tangle_lexer.proofs.laws.SegmentPoints.{points-append}

-- the points of the bytes that are kept of such a text
abbrev pub text_points : Bool → List Cell → List (ℕ × ℕ)
text_points after_at_sign cells = flat_map kept_points (text_segments after_at_sign cells)

-- the points of a text before cells whose points do not depend on the cell before them
points-before : (after_at_sign : Bool) (xs ys : List Cell) (ps : List (ℕ × ℕ))
    → ((h : Bool) → text_points h ys ≡ ps) → text_points after_at_sign (xs ++ ys) ≡ text_points after_at_sign xs ++ ps
points-before after_at_sign [] ys ps h = h after_at_sign
points-before after_at_sign (x ∷ xs) ys ps h =
    grind (arith, points-before (holds at_sign x.byte && not after_at_sign) xs ys ps h)

module _ (texts : List (List ℕ)) where
  -- a text that is cut; `last` gives the points of its end
  module _ (r : Region) (cut : IsCut r) (ends : ℕ → List Cell → List Token) (last : List Cell → List (ℕ × ℕ))
      (stop : (at : Point) (start : ℕ) (text : List Cell) → start ≤ at.column → IsTextAt texts at text
      → token_points (ends start text) ≡ columns_to at.line start at.column ++ last text) where
    -- the points of the first `n` cells, which are the region, and those of its end
    abbrev kept_of : ℕ → List Cell → List (ℕ × ℕ)
    kept_of n text = text_points false (take n text) ++ last (drop n text)

    abbrev Keeps : Point → ℕ → List Token → ℕ → List Cell → Type 0
    Keeps at start ts n text = token_points ts ≡ columns_to at.line start at.column ++ kept_of n text

    -- the points of a current range with one more byte
    after-range : (line start column : ℕ) (ps : List (ℕ × ℕ)) → start ≤ column
        → columns_to line start (column + 1) ++ ps ≡ columns_to line start column ++ ((line, column) ∷ ps)
    after-range line start column ps h = grind (arith, nat_tests, columns-next, append_assoc)

    pub cut-keeps : (at : Point) (start : ℕ) (text : List Cell) → start ≤ at.column → IsTextAt texts at text
        → Keeps at start (cut_tokens ends r 0 start text) (count_before r text) text
    cut-keeps =
        cut-by texts r cut ends Keeps stop
        (λ at start c cs ts n h is byte alone kept. grind (arith, nat_tests, after-range c.line start c.column (kept_of n cs)))
        (λ at start c d cs ts n h is cell byte second sign same kept. grind (arith, nat_tests, columns-nothing, after-range c.line start c.column (kept_of n cs)))
        (λ at start c d cs ts n h is cell byte second other same kept. grind (arith, nat_tests, after-range))
        (λ at start c d cs ts n h is cell byte none other kept. grind (arith, nat_tests, after-range))

  -- quoted texts

  -- the closing byte, if it is there
  abbrev close-points : ℕ → List Cell → List (ℕ × ℕ)
  close-points close text = byte_points (take (one_if (holds close (byte_at 0 text))) text)

  -- the closing byte is kept, whatever cell is before it
  close-kept : (close : ℕ) (text : List Cell) → ((b : Option ℕ) → holds close b ≡ true → holds at_sign b ≡ false)
      → (h : Bool) → text_points h (take (one_if (holds close (byte_at 0 text))) text) ≡ close-points close text
  close-kept close x other h = grind arith

  pub quoted-keeps : (r : Region) → IsCut r → (close : ℕ) → (close == at_sign) ≡ false
      → (s : LexerState) (at : Point) (c : Cell) (cs : List Cell)
      → IsTextAt texts at (c ∷ cs) → IsByte c.byte → holds at_sign c.byte ≡ false
      → token_points (quoted_text r close s (c ∷ cs)).tokens
      ≡ text_points false (take (1 + (quoted_text r close s (c ∷ cs)).more) (c ∷ cs))
  quoted-keeps r cut close other s at c cs is byte sign =
      let front : Point = point_at c.line (c.column + 1) in
      let text = text-next texts at c cs is byte in
      let n : ℕ = count_before r cs in
      let last : ℕ = one_if (holds close (byte_at 0 (drop n cs))) in
      let kept = cut-keeps r cut (quote_end r close s.last_line)
      (close-points close) (search (rules, columns-next)) front c.column cs (omega arith) text in
      search (rules, columns_to, columns-next, columns-nothing, take-add, points-before, close-kept)

  -- verbatim texts

  empty-points : (text : List Cell) → token_points (empty_text text) ≡ []
  empty-points x = grind arith

  pub verbatim-keeps : (at : Point) (text : List Cell) → IsTextAt texts at text
      → token_points (verbatim_tokens text) ≡ text_points false (take (count_before region.Verbatim text) text)
  verbatim-keeps at text is =
      grind (
        arith,
        nat_tests,
        points-append,
        empty-points,
        text-column texts at text,
        append-nil,
        columns-nothing,
        cut-keeps region.Verbatim verbatim-cut verbatim_end (λ t. []) (λ at start x h is. grind arith) at at.column text,
      )
