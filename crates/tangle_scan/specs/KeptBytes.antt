-- No byte of a C part is lost.
use Rattle.std.specs.Prelude.{◌≡◌, ◌≤◌, ◌<◌, ℕ, List, flat_map}
use Rattle.std.specs.List.{All, AllByRecursion, AllPairs}
use Rattle.tangle_lines.specs.Reading.{SourceRead}
use Rattle.tangle_text.specs.declared.spans.Span.{Span}
use Rattle.tangle_text.specs.Text.{IsSpan, text_from}
use Rattle.tangle_lexer.specs.Segments.{span_points, kept_points, ShowsKind, all_segments}
use Rattle.tangle_scan.specs.Web.{WebRead}
use Rattle.tangle_scan.specs.ItemSpans.{item_spans}

-- the first point is before the second: on an earlier line, or further left on the same line
abbrev pub IsEarlier : ℕ × ℕ → ℕ × ℕ → Type 0
IsEarlier p q = (p.0 ≤ q.0) × (p.0 ≡ q.0 → p.1 < q.1)

-- the first span ends where the second begins, or before: on an earlier line, or on the same line
-- no further right
abbrev pub EndsBefore : Span → Span → Type 0
EndsBefore s t = (s.line ≤ t.line) × (s.line ≡ t.line → s.end ≤ t.start)

-- Spans are in the order of the source: each is a range of a source line, and each later one
-- begins where it ends, or after. Empty spans have their place in this order, too.
pub record AreInOrder (texts : List (List ℕ)) (spans : List Span) : Type 0 where
  pub ranges : All (IsSpan texts) spans
  pub order : AllPairs EndsBefore spans

-- The segments of the source are side by side and fill its text, and the cells of each are such as
-- its kind has. The bytes that are kept are those in the spans of the pieces, and no byte is in two
-- spans. All spans of the pieces, piece after piece, are in the order of the source, and so are those
-- of the macros.
pub record KeepsEachByte (source : SourceRead) (web : WebRead) : Type 0 where
  pub filled : flat_map (λ s. s.cells) (all_segments source.lines) ≡ text_from 0 source.lines
  pub kinds : AllByRecursion (λ s. ShowsKind s.kind s.cells) (all_segments source.lines)
  pub kept : flat_map span_points (flat_map (λ p. item_spans p.items) web.pieces)
      ≡ flat_map kept_points (all_segments source.lines)
  pub once : AllPairs IsEarlier
      (flat_map span_points (flat_map (λ p. item_spans p.items) web.pieces))
  pub pieces : AreInOrder web.texts (flat_map (λ p. item_spans p.items) web.pieces)
  pub macros : AreInOrder web.texts (flat_map item_spans web.macros)
