-- The tokens of a source are in order, and the source items of a web are at their lines.
use Rattle.std.proofs.Common.{rules}
use Rattle.std.proofs.Common.{ℕ, List, [], ◌∷◌, flat_map}
use Rattle.std.specs.List.{AllZip}
use Rattle.tangle_lines.specs.Reading.{SourceLine, SourceRead}
use Rattle.tangle_lexer.specs.declared.tokens.Token.{Token}
use Rattle.tangle_lexer.specs.declared.tokens.Token.TheVariants as token
use Rattle.tangle_lexer.specs.LinesOfParts.{body}
use Rattle.tangle_lexer.specs.Steps.{tokens_from, all_tokens}
use Rattle.tangle_scan.specs.Rules.{texts_of, without_faults}
use Rattle.tangle_scan.specs.Web.{web_of, blocks, section_after, piece_of}
use Rattle.tangle_scan.specs.LineTruth.{IsAtItsLine, kind_locations, PiecesAreAtTheirLines}
use Rattle.tangle_lexer.proofs.laws.Points.{Point, point_at, text-is}
use Rattle.tangle_lexer.proofs.laws.TokenOrder.{line_after, span_end, text-reaches, AreFromLine, AreByLine}
use Rattle.tangle_lexer.proofs.laws.LexemeOrder.{lexemes-in_order}
use Rattle.tangle_scan.proofs.laws.LineTruthLemmas.{part-true}

-- the tokens of a source are in order
pub all-in_order : (lines : List SourceLine) → AreFromLine (texts_of lines) 0 (point_at 0 0) (all_tokens lines)
unfolding tokens_from
all-in_order lines =
    search (rules, lexemes-in_order, text-reaches, text-is lines)

module _ (texts : List (List ℕ)) where
  body-by_line : (line : ℕ) (p : Point) (es : List Token)
      → AreFromLine texts line p es → AreByLine texts line (without_faults (body es))
  body-by_line line p [] ordered = tt
  body-by_line line p (e ∷ es) ordered = search (rules, body-by_line (line_after line e) (span_end p e) es)

module _ (lines : List SourceLine) where
  -- the source items of each C part are at their own lines
  parts-true : (n line : ℕ) (p : Point) (es : List Token) → AreFromLine (texts_of lines) line p es
      → AllZip (λ p ts. IsAtItsLine lines p.origin p.items ts) (flat_map (piece_of lines) (blocks n es))
      (flat_map (λ b. kind_locations lines b.kind b.tokens) (blocks n es))
  parts-true n line p [] ordered = tt
  parts-true n line p (token.UnnamedPart at ∷ es) ordered =
      let here = body-by_line (texts_of lines) at p es ordered.1 in
      (part-true lines at (body es) here, parts-true n at p es ordered.1)
  parts-true n line p (e ∷ es) ordered =
      let rest = parts-true (section_after n e) (line_after line e) (span_end p e) es in
      search (rules, part-true, body-by_line, rest)

-- the source items of each piece are at their own origins, outside stretches
pub web-line-truth : (source : SourceRead) → PiecesAreAtTheirLines source (web_of source)
web-line-truth source =
    parts-true source.lines 0 0 (point_at 0 0) (all_tokens source.lines) (all-in_order source.lines)
