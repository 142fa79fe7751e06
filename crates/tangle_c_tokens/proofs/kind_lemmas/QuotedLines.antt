-- The line feeds of a quoted text are directly after backslashes.
use Rattle.std.proofs.Common.{arith}
use Rattle.std.proofs.Common.{◌≡◌, ℕ, false, List, [], ◌∷◌, Some, None, refl, ap, sym, subst}
use Rattle.std.specs.Prelude.{◌==◌, slice_get}
use Rattle.std.proofs.Math.Bool.{and-false}
use Rattle.tangle_lines.specs.Bytes.{at_sign}
use Rattle.tangle_text.specs.declared.regions.Region.{Region}
use Rattle.tangle_text.specs.Bytes.{holds, backslash}
use Rattle.tangle_text.specs.Text.{Cell}
use Rattle.tangle_lexer.specs.Quoted.{cut_tokens, quote_end}
use Rattle.tangle_scan.specs.Rules.{without_faults}
use Rattle.c_tokens.specs.Bytes.{line_feed}
use Rattle.c_tokens.specs.Reading.{spliced}
use Rattle.c_lines.proofs.JoinedLemmas.{spliced-other}
use Rattle.tangle_c_tokens.specs.Groups.{group_text}
use Rattle.tangle_c_tokens.specs.LineFeeds.{TextHasNoLineFeed}
use Rattle.tangle_c_tokens.proofs.kind_lemmas.Lines.{AreClear}
use Rattle.tangle_lexer.proofs.laws.Points.{Point, IsTextAt}
use Rattle.tangle_c_tokens.proofs.kind_lemmas.QuoteBytes.{kept-first}
use Rattle.tangle_c_tokens.proofs.kind_lemmas.QuotedTexts.{IsQuoteRegion, IsByUnits, text-whole}
use Rattle.std.proofs.lemmas.Bool.Decides.{nat_tests}

abbrev IsOneLine : List ℕ → Type 0
IsOneLine q = TextHasNoLineFeed (spliced q)

one-byte : (b : ℕ) (q : List ℕ) → (b == line_feed) ≡ false → holds line_feed (slice_get q 0) ≡ false → IsOneLine q
    → IsOneLine (b ∷ q)
one-byte b q feed next line = subst TextHasNoLineFeed (sym (kept-first b q next)) (grind (arith, nat_tests))

module _ (texts : List (List ℕ)) (clear : AreClear texts) (r : Region) (close last_line : ℕ)
    (region : IsQuoteRegion r close)
    (closes : (close == line_feed) ≡ false) where
  line-units : IsByUnits r close (λ ends q. IsOneLine q)
  line-units = record {
    ending = one-byte close [] closes refl refl;
    unended = refl;
    one = λ ends b q e feed next line. one-byte b q feed next line;
    signs = λ ends q next line. one-byte at_sign q refl next line;
    others = λ ends b y q e sign feed next line.
        one-byte b (y ∷ q) (ap (λ c. c == line_feed) (region.pairs b (Some y) e (rw sign refl))) feed
        (one-byte y q feed next line);
    broken = λ ends b q e line. rw (region.pairs b None e (and-false (b == at_sign))) line;
  }

  pub text-lines : (at : Point) (c : Cell) (cs : List Cell) (b : ℕ) → c.byte ≡ Some b → IsTextAt texts at (c ∷ cs)
      → (b == backslash) ≡ false → (b == line_feed) ≡ false
      → IsOneLine (group_text texts (without_faults (cut_tokens (quote_end r close last_line) r 0 c.column cs)))
  text-lines at c cs b x is back feed =
      let whole = text-whole texts clear r close last_line region (λ ends q. IsOneLine q) line-units at c cs b x is in
      rw (whole.bytes, spliced-other b whole.ahead back)
      (grind (arith, nat_tests, feed, whole.closes))
