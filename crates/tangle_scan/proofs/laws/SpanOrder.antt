-- The spans of the pieces and those of the macros are in the order of the source. `texts` are the bytes of the source
-- lines.
use Rattle.std.proofs.Common.{rules}
use Rattle.std.proofs.lemmas.Bool.Decides.{nat_tests}
use Rattle.std.proofs.Common.{◌≡◌, ℕ, true, false, List, [], ◌∷◌, ◌++◌, flat_map, refl}
use Rattle.std.proofs.Common.{arith, append-nil, None}
use Rattle.std.proofs.Common.{◌+◌}
use Rattle.std.proofs.lemmas.Grind.{flat_map-append}
use Rattle.std.specs.List.{All}
use Rattle.std.proofs.lemmas.List.Elements.{All-nil, All-cons}
use Rattle.std.proofs.lemmas.List.Kept.{AllPairs-cons}
use Rattle.tangle_lines.specs.Reading.{SourceLine}
use Rattle.tangle_text.specs.declared.spans.Span.{Span}
use Rattle.tangle_text.specs.Text.{IsSpan, texts_of}
use Rattle.tangle_lexer.specs.declared.tokens.Token.{Token}
use Rattle.tangle_lexer.specs.declared.tokens.Token.TheVariants as token
use Rattle.tangle_lexer.specs.LinesOfParts.{body}
use Rattle.tangle_lexer.specs.Steps.{all_tokens}
use Rattle.tangle_lexer.proofs.laws.Points.{Point, point_at}
use Rattle.tangle_lexer.proofs.laws.TokenOrder.{Precedes, span_end, line_after, AreFromLine}
use Rattle.tangle_scan.specs.Rules.{without_backslashes, macro_tokens, macro_blanks, unmarked_items}
use Rattle.tangle_scan.specs.Rules.{macro_items}
use Rattle.tangle_scan.specs.Web.{Block, blocks, piece_of, macro_of}
use Rattle.tangle_scan.specs.ItemSpans.{item_spans}
use Rattle.tangle_scan.specs.KeptBytes.{EndsBefore, AreInOrder}
use Rattle.tangle_scan.proofs.lemmas.KeptTokens.{macro_blanks-kept, macro-kept}
use Rattle.tangle_scan.proofs.laws.ItemSpans.{token_spans, alike-spans, part-spans}
use Rattle.tangle_scan.proofs.laws.WebLaws.{all-in_order}

module _ (texts : List (List ℕ)) where
  -- spans are ranges of source lines, in order from a point on
  abbrev pub AreFrom : Point → List Span → Type 0
  AreFrom p [] = Unit {0}
  AreFrom p (s ∷ ss) = (Precedes p (point_at s.line s.start) × IsSpan texts s) × AreFrom (point_at s.line s.end) ss

  spans-from : (line : ℕ) (p : Point) (ts : List Token) → AreFromLine texts line p ts → AreFrom p (token_spans ts)
  spans-from line p [] h = tt
  spans-from line p (x ∷ ts) h = grind (arith, spans-from (line_after line x) (span_end p x) ts h.1)

  earlier : (p q : Point) (ss : List Span) → Precedes p q → AreFrom q ss → AreFrom p ss
  earlier p q [] le h = tt
  earlier p q (s ∷ ss) le h = grind arith

  later : (s : Span) (p : Point) (ss : List Span) → Precedes (point_at s.line s.end) p → AreFrom p ss → All (EndsBefore s) ss
  later s p [] le h = All-nil (EndsBefore s)
  later s p (t ∷ ss) le h = grind (arith, later s (point_at t.line t.end) ss (grind arith) h.1)

  pub in-order : (p : Point) (ss : List Span) → AreFrom p ss → AreInOrder texts ss
  in-order p [] h = record { ranges = All-nil (IsSpan texts); order = λ i j d k l. absurd (omega arith) }
  in-order p (s ∷ ss) h =
      let rest = in-order (point_at s.line s.end) ss h.1 in
      search (rules, All-cons, AllPairs-cons, later)

  -- the first spans are some of the second: in place of these they are in order too, whatever follows
  abbrev AreSome : List Span → List Span → Type 0
  AreSome ss ts = (p : Point) (rest : List Span) → AreFrom p (ts ++ rest) → AreFrom p (ss ++ rest)

  some-none : (ts : List Span) → AreSome [] ts
  some-none [] p rest h = h
  some-none (t ∷ ts) p rest h = some-none ts p rest (earlier p (point_at t.line t.end) (ts ++ rest) (grind arith) h.1)

  backslashes-some : (es : List Token) → AreSome (token_spans (without_backslashes texts es)) (token_spans es)
  backslashes-some [] p rest h = h
  backslashes-some (x ∷ es) p rest h = grind (arith, nat_tests, earlier, λ (q : Point). backslashes-some es q rest)

  unmarked-spans : (es : List Token) → item_spans (unmarked_items es) ≡ token_spans es
  unmarked-spans [] = refl
  unmarked-spans (x ∷ es) = grind (arith, unmarked-spans es)

  macro-some : (es : List Token) → AreSome (item_spans (macro_items texts es)) (token_spans es)
  macro-some es =
      let ts = macro_tokens texts es in
      let fs = without_backslashes texts ts in
      let bs = macro_blanks texts true None false fs in
      let same = alike-spans bs fs (macro_blanks-kept texts true None false fs) in
      rw (unmarked-spans bs, same, ← alike-spans ts es (macro-kept texts es)) (backslashes-some ts)

  -- `f` takes some spans of each block
  module _ (f : Block → List Span) (picks : (b : Block) → AreSome (f b) (token_spans b.tokens)) where
    -- the spans of the tokens up to the first head, and those of the blocks after it
    blocks-from : (n : ℕ) (es : List Token) (p : Point)
        → AreFrom p (token_spans es) → AreFrom p (token_spans (body es) ++ flat_map f (blocks n es))
    blocks-from n [] p h = tt
    blocks-from n (token.Section ∷ es) p h = some-none (token_spans (body es)) p _ (blocks-from (n + 1) es p h)
    blocks-from n (e ∷ es) p h = search (rules, picks, blocks-from n es)

pub flat_map-twice : {A B C : Type 0} (f : B → List C) (g : A → List B) (xs : List A)
    → flat_map f (flat_map g xs) ≡ flat_map (λ x. flat_map f (g x)) xs
flat_map-twice f g [] = refl
flat_map-twice f g (x ∷ xs) = grind (arith, nat_tests, flat_map-append f (g x) (flat_map g xs), flat_map-twice f g xs)

module _ (lines : List SourceLine) where
  all-from : AreFrom (texts_of lines) (point_at 0 0) (token_spans (all_tokens lines))
  all-from = spans-from (texts_of lines) 0 (point_at 0 0) (all_tokens lines) (all-in_order lines)

  -- the spans of what is made of each block
  made-from : {X : Type 0} (spans : X → List Span) (make : Block → List X)
      → ((b : Block) → AreSome (texts_of lines) (flat_map spans (make b)) (token_spans b.tokens))
      → AreFrom (texts_of lines) (point_at 0 0) (flat_map spans (flat_map make (blocks 0 (all_tokens lines))))
  made-from spans make some =
      rw (flat_map-twice spans make (blocks 0 (all_tokens lines)))
      (some-none (texts_of lines) (token_spans (body (all_tokens lines))) (point_at 0 0) _
      (blocks-from (texts_of lines) (λ b. flat_map spans (make b)) some 0 (all_tokens lines) (point_at 0 0) all-from))

  pub pieces-from : AreFrom (texts_of lines) (point_at 0 0)
      (flat_map (λ p. item_spans p.items) (flat_map (piece_of lines) (blocks 0 (all_tokens lines))))
  pieces-from = search (rules, made-from, some-none, part-spans)

  pub macros-from : AreFrom (texts_of lines) (point_at 0 0)
      (flat_map item_spans (flat_map (macro_of lines) (blocks 0 (all_tokens lines))))
  macros-from = made-from item_spans (macro_of lines) (λ x p rest h.
      let none = some-none (texts_of lines) (token_spans x.tokens) p rest h in
      let some = macro-some (texts_of lines) x.tokens p rest h in grind (arith, append-nil, none, some))
