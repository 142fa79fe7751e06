-- The numbers of the occurrences of a web are below their count.
use Rattle.std.proofs.lemmas.Bool.Decides.{nat_tests}
use Rattle.std.proofs.Common.{rules}
use Rattle.std.proofs.Common.{length, map, arith, subst, ◌<◌, ℕ}
use Rattle.std.proofs.Common.{List, [], ◌∷◌, flat_map}
use Rattle.std.specs.List.{AllByRecursion, All}
use Rattle.std.specs.Option.{IfSome}
use Rattle.std.proofs.lemmas.List.Elements.{All-from_recursion, All-nil, All-weaker}
use Rattle.std.proofs.lemmas.List.{length-map}
use Rattle.tangle_lines.specs.Reading.{SourceLine, SourceRead}
use Rattle.tangle_lexer.specs.declared.tokens.Token.{Token}
use Rattle.tangle_lexer.specs.declared.tokens.Token.TheVariants as token
use Rattle.tangle_lexer.specs.LinesOfParts.{body}
use Rattle.tangle_lexer.specs.Occurrences.{occurrence_of}
use Rattle.tangle_lexer.specs.Steps.{all_tokens, all_occurrences, first_state}
use Rattle.tangle_lexer.proofs.lemmas.OccurrencesCounted.{AreBelow, tokens-below}
use Rattle.tangle_text.specs.Text.{text_from}
use Rattle.tangle_scan.specs.Rules.{part_items}
use Rattle.tangle_scan.specs.Web.{PieceRead, blocks, section_after, piece_of, web_of}
use Rattle.tangle_scan.specs.WellFormed.{IsWellFormed}
use Rattle.tangle_scan.specs.Texts.{item_uses}
use Rattle.tangle_scan.proofs.laws.ItemSpans.{token_uses, part-uses}

module _ (lines : List SourceLine) (count : ℕ) where
  -- the uses of the tokens up to the next head
  body-below : (es : List Token) → AreBelow count es → All (λ n. n < count) (flat_map token_uses (body es))
  body-below [] h = All-nil (λ n. n < count)
  body-below (e ∷ es) h = search (rules, All-nil, body-below es)

  part-below : (line : ℕ) (es : List Token)
      → AreBelow count es → All (λ n. n < count) (flat_map item_uses (part_items lines line (body es)))
  part-below line es h = rw (part-uses lines line (body es)) (body-below es h)

  record IsRightPiece (p : PieceRead) : Type 0 where
    pub items : All (λ n. n < count) (flat_map item_uses p.items)
    pub occurrence : IfSome p.occurrence (λ occurrence. occurrence < count)

  pieces-right : (n : ℕ) (es : List Token) → AreBelow count es
      → AllByRecursion IsRightPiece (flat_map (piece_of lines) (blocks n es))
  pieces-right n [] h = tt
  pieces-right n (token.UnnamedPart at ∷ es) h =
      grind (arith, nat_tests, part-below at es h.1, pieces-right n es h.1)
  pieces-right n (token.NamedPart at occurrence ∷ es) h =
      grind (arith, nat_tests, part-below at es h.1, pieces-right n es h.1)
  pieces-right n (e ∷ es) h = pieces-right (section_after n e) es h.1

pub web-well-formed : (source : SourceRead) → IsWellFormed (web_of source)
web-well-formed source =
    let lines = source.lines in
    let count = length (map (occurrence_of lines) (all_occurrences lines)) in
    let below = subst (λ n. AreBelow n (all_tokens lines)) (omega (arith, length-map (all_occurrences lines) (occurrence_of lines)))
    (tokens-below (first_state (length lines)) (text_from 0 lines)) in
    let pieces = All-from_recursion (IsRightPiece lines count) _ (pieces-right lines count 0 (all_tokens lines) below) in
    record {
      uses = All-weaker (IsRightPiece lines count) _ (λ p right. right.items) _ pieces;
      definitions = All-weaker (IsRightPiece lines count) _ (λ p right. right.occurrence) _ pieces;
    }
