-- The ranges of a quoted text have the bytes of one text, unit by unit.
use Rattle.std.proofs.Common.{rules}
use Rattle.std.proofs.Common.{◌≡◌, ℕ, suc, ◌+◌, ◌≤◌, Bool, true, false, List, [], ◌∷◌, ◌++◌}
use Rattle.std.proofs.Common.{Option, Some, None, refl, ap, sym, ◌∙◌, subst, arith, append_assoc, append-nil}
use Rattle.std.proofs.Common.{cond, get_or, length}
use Rattle.std.specs.Prelude.{◌==◌, slice_get}
use Rattle.std.specs.List.{list_all}
use Rattle.std.proofs.lemmas.Bool.{eqb-true}
use Rattle.tangle_faults.specs.declared.faults.FaultKind.TheVariants as fault
use Rattle.tangle_lines.specs.Bytes.{at_sign}
use Rattle.tangle_text.specs.declared.regions.Region.{Region}
use Rattle.tangle_text.specs.declared.regions.Unit.TheVariants as unit
use Rattle.tangle_text.specs.Bytes.{holds, are_bytes, backslash}
use Rattle.tangle_text.specs.Text.{Cell, byte_at}
use Rattle.tangle_text.specs.Regions.{unit_of, unit_at}
use Rattle.tangle_lexer.specs.declared.tokens.Token.{Token}
use Rattle.tangle_lexer.specs.declared.tokens.Token.TheVariants as token
use Rattle.tangle_lexer.specs.declared.tokens.SpanKind.TheVariants as span_kind
use Rattle.tangle_lexer.specs.Quoted.{kind_in, cut_range, unit_tokens, next_start, cut_tokens, quote_end}
use Rattle.tangle_lexer.proofs.lemmas.CutLemmas.{cut-stop}
use Rattle.tangle_lexer.proofs.laws.CutTexts.{IsCut}
use Rattle.tangle_lexer.proofs.laws.RegionUnits.{units-by}
use Rattle.tangle_scan.specs.Rules.{without_faults}
use Rattle.tangle_scan.specs.ReadAsMeant.{token_bytes}
use Rattle.c_tokens.specs.Bytes.{line_feed}
use Rattle.c_tokens.specs.Borders.{has_bytes}
use Rattle.tangle_c_tokens.specs.Groups.{group_text}
use Rattle.tangle_c_tokens.specs.Edges.{last_byte_passes}
use Rattle.tangle_c_tokens.proofs.TextLemmas.{ends-append}
use Rattle.tangle_c_tokens.specs.Kinds.{is_range}
use Rattle.tangle_lexer.proofs.laws.Points.{Point, point_at, after_by, IsTextAt}
use Rattle.tangle_c_tokens.proofs.kind_lemmas.Lines.{AreClear, IsByteAt, byte-is, range}
use Rattle.tangle_c_tokens.proofs.kind_lemmas.Lines.{range-none, range-byte, range-some}
use Rattle.std.proofs.lemmas.Bool.Decides.{nat_tests}

held : (b : ℕ) (x : Option ℕ) → holds b x ≡ true → x ≡ Some b
held b None h = search rules
held b (Some c) h = cc (eqb-true c b h)

-- a region of quoted texts, which this byte closes, and in which only a backslash continues a line
pub record IsQuoteRegion (r : Region) (close : ℕ) : Type 0 where
  pub cut : IsCut r
  pub kind : kind_in r ≡ span_kind.Quoted
  pub stops : (b : ℕ) (n : Option ℕ) → unit_of r (Some b) n ≡ unit.Stop → (b == close) ≡ true
  pub pairs : (b : ℕ) (n : Option ℕ) → unit_of r (Some b) n ≡ unit.Two → are_bytes at_sign at_sign (Some b) n ≡ false
      → b ≡ backslash

-- `Closes` is true of the bytes of a text after its opening byte, unit by unit: of a text that ends, or of one that
-- does not.
pub record IsByUnits (r : Region) (close : ℕ) (Closes : Bool → List ℕ → Type 0) : Type 0 where
  pub ending : Closes true (close ∷ [])
  pub unended : Closes false []
  pub one : (ends : Bool) (b : ℕ) (q : List ℕ) → unit_of r (Some b) (slice_get q 0) ≡ unit.One
      → (b == line_feed) ≡ false → holds line_feed (slice_get q 0) ≡ false → Closes ends q → Closes ends (b ∷ q)
  pub signs : (ends : Bool) (q : List ℕ) → holds line_feed (slice_get q 0) ≡ false → Closes ends q → Closes ends
      (at_sign ∷ q)
  pub others : (ends : Bool) (b y : ℕ) (q : List ℕ) → unit_of r (Some b) (Some y) ≡ unit.Two → (b == at_sign) ≡ false
      → (y == line_feed) ≡ false → holds line_feed (slice_get q 0) ≡ false → Closes ends q → Closes ends (b ∷ y ∷ q)
  pub broken : (ends : Bool) (b : ℕ) (q : List ℕ) → unit_of r (Some b) None ≡ unit.Two → Closes ends q
      → Closes ends (b ∷ line_feed ∷ q)

module _ (texts : List (List ℕ)) (clear : AreClear texts) (r : Region) (close last_line : ℕ)
    (region : IsQuoteRegion r close)
    (Closes : Bool → List ℕ → Type 0) (units : IsByUnits r close Closes) where
  abbrev tokens_of : ℕ → List Cell → List Token
  tokens_of start text = cut_tokens (quote_end r close last_line) r 0 start text

  -- the closing byte is last
  abbrev is_closing : ℕ → Bool
  is_closing b = b == close

  abbrev is_full : Token → Bool
  is_full t = has_bytes (token_bytes texts (λ t. []) t)

  -- The tokens without faults are ranges that have these bytes, and then those of the text that is still ahead, which
  -- begins with `front`.
  pub record Ends (before : List ℕ) (front : Option ℕ) (ts : List Token) : Type 0 where
    pub ends : Bool
    pub ahead : List ℕ
    pub bytes : group_text texts (without_faults ts) ≡ before ++ ahead
    pub first : slice_get ahead 0 ≡ front
    pub closes : Closes ends ahead
    pub last : ends ≡ true → last_byte_passes is_closing ahead ≡ true
    pub ranges : list_all is_range (without_faults ts) ≡ true
    pub full : list_all is_full (without_faults ts) ≡ true

  -- a text from a point on, and from the start of a range before it
  abbrev Holds : ℕ → List Cell → Type 0
  Holds n text =
      (at : Point) (start : ℕ) → IsTextAt texts at text → start ≤ at.column
      → Ends (range texts at.line start at.column) (byte_at 0 text) (tokens_of start text)

  -- the same from a cell on
  abbrev HoldsAt : Cell → List Cell → Type 0
  HoldsAt c cs =
      (start : ℕ) → IsTextAt texts (point_at c.line c.column) (c ∷ cs) → start ≤ c.column
      → Ends (range texts c.line start c.column) c.byte (tokens_of start (c ∷ cs))

  from-cell : (n : ℕ) (c : Cell) (cs : List Cell) → HoldsAt c cs → Holds n (c ∷ cs)
  from-cell n c cs h at start is =
      subst (λ (p : Point). IsTextAt texts p (c ∷ cs) → start ≤ p.column
      → Ends (range texts p.line start p.column) c.byte (tokens_of start (c ∷ cs)))
      (λ i. point_at (is.0.line i) (is.0.column i)) (h start) is

  -- tokens that are ranges with these bytes, and then other tokens
  record Adds (bytes : List ℕ) (ts rest : List Token) : Type 0 where
    text : group_text texts (without_faults ts) ≡ bytes ++ group_text texts (without_faults rest)
    ranges : list_all is_range (without_faults ts) ≡ list_all is_range (without_faults rest)
    full : list_all is_full (without_faults ts) ≡ list_all is_full (without_faults rest)

  -- a range that may be empty
  cut-range : (line start end : ℕ) → start ≤ end → end ≤ length (get_or texts line []) → (ts : List Token)
      → Adds (range texts line start end) (cut_range r line start end ++ ts) ts
  cut-range line start end low within ts = search (rules, range-some texts)

  -- a text with these bytes before it
  add-ends : (before first rest_before : List ℕ) (b : ℕ) (more : List ℕ) (front rest_front : Option ℕ) (ts rest : List Token)
      → Adds first ts rest → (further : Ends rest_before rest_front rest) → front ≡ Some b → first ++ rest_before ≡ before ++ b ∷ more
      → Closes further.ends (b ∷ more ++ further.ahead) → Ends before front ts
  add-ends before first rest_before b more front rest_front ts rest adds further x same closes = record {
    ends = further.ends;
    ahead = b ∷ more ++ further.ahead;
    bytes = adds.text ∙ ap (λ t. first ++ t) further.bytes ∙ sym (append_assoc first rest_before further.ahead)
        ∙ ap (λ t. t ++ further.ahead) same ∙ append_assoc before (b ∷ more) further.ahead;
    first = sym x;
    closes = closes;
    last = λ k. ends-append is_closing (b ∷ more) further.ahead (further.last k);
    ranges = adds.ranges ∙ further.ranges;
    full = adds.full ∙ further.full;
  }

  -- the end of the text

  stop-by : (c : Cell) (cs : List Cell) (start : ℕ) (closed : Bool) → holds close c.byte ≡ closed
      → unit_at r (c ∷ cs) ≡ unit.Stop → IsTextAt texts (point_at c.line c.column) (c ∷ cs) → start ≤ c.column
      → Ends (range texts c.line start c.column) c.byte
      (cond closed (cut_range r c.line start (c.column + 1))
      (cut_range r c.line start c.column ++ token.Fault fault.StringEnd c.line ∷ []))
  stop-by c cs start false same e is low =
      let within = is.0.inside in search (rules, cut-range, units.unended)
  stop-by c cs start true same stop is low =
      let here = byte-is texts clear (point_at c.line c.column) c cs close (held close c.byte same) is in
      let only = cut-range c.line start (c.column + 1) (omega arith) here.within [] in
      search (rules, range-byte texts clear c cs close start here low, units.ending)

  stop-holds : (text : List Cell) → unit_at r text ≡ unit.Stop → Holds 0 text
  stop-holds [] e at start is low =
      let none : range texts at.line start at.column ≡ [] = grind (arith, nat_tests) in
      rw none (search (rules, units.unended))
  stop-holds (c ∷ cs) e at start is low = from-cell 0 c cs (search (rules, cut-stop, stop-by)) at start is low

  -- a unit of one byte

  one-holds : (n : ℕ) (c : Cell) (cs : List Cell) → unit_at r (c ∷ cs) ≡ unit.One → Holds n cs → HoldsAt c cs
  one-holds n c cs e next start is low = by c.byte refl
    where
      by : (x : Option ℕ) → c.byte ≡ x → Ends (range texts c.line start c.column) c.byte (tokens_of start (c ∷ cs))
      by None x = grind (arith, nat_tests, region.cut.stops)
      by (Some b) x =
          let here = byte-is texts clear (point_at c.line c.column) c cs b x is in
          let tail = tokens_of start cs in
          let kept : without_faults (tokens_of start (c ∷ cs)) ≡ without_faults tail = grind (arith, nat_tests, e) in
          let further = next (point_at c.line (c.column + 1)) start here.next (omega arith) in
          add-ends _ [] _ b [] _ _ _ tail
          (record { text = ap (group_text texts) kept; ranges = ap (list_all is_range) kept; full = ap (list_all is_full) kept })
          further x (range-byte texts clear c cs b start here low)
          (search (rules, units.one, here.feed, here.next_feed))

  -- a unit of two bytes, or of a backslash and a line end

  two-holds : (n : ℕ) (c d : Cell) (cs : List Cell) → unit_at r (c ∷ d ∷ cs) ≡ unit.Two → Holds n cs
      → HoldsAt c (d ∷ cs)
  two-holds n c d cs e next start is low = by c.byte refl d.byte refl (holds at_sign c.byte) refl
    where
      before : List ℕ
      before = range texts c.line start c.column

      first : List ℕ
      first = range texts c.line start (c.column + 1)

      tokens : tokens_of start (c ∷ d ∷ cs)
          ≡ unit_tokens r unit.Two start c d.byte ++ tokens_of (next_start unit.Two start c d.byte) cs
      tokens = rw e refl

      -- a text is ahead of a range up to the first byte
      cut : (b : ℕ) (ts : List Token) → IsByteAt texts clear c (d ∷ cs) b
          → Adds first (cut_range r c.line start (c.column + 1) ++ ts) ts
      cut b ts here = cut-range c.line start (c.column + 1) (omega arith) here.within ts

      by : (x : Option ℕ) → c.byte ≡ x → (z : Option ℕ) → d.byte ≡ z → (sign : Bool) → holds at_sign c.byte ≡ sign
          → Ends before c.byte (tokens_of start (c ∷ d ∷ cs))
      by None x z k sign s = grind (arith, nat_tests, region.cut.stops)
      by (Some b) x None k true s = grind (arith, nat_tests, region.cut.pairs)
      by (Some b) x None k false s =
          let here = byte-is texts clear (point_at c.line c.column) c (d ∷ cs) b x is in
          let further = next (point_at (d.line + 1) 0) 0
          (subst (λ (z : Option ℕ). IsTextAt texts (after_by z d) cs) k here.next.1) (omega arith) in
          let own = cut b (token.QuoteBreak c.line ∷ tokens_of 0 cs) here in
          let same : tokens_of start (c ∷ d ∷ cs) ≡ cut_range r c.line start
          (c.column + 1) ++ token.QuoteBreak c.line ∷ tokens_of 0 cs =
          grind (arith, nat_tests, tokens, region.cut.takes) in
          rw same (add-ends before (first ++ line_feed ∷ []) _ b (line_feed ∷ []) _ _ _
          (tokens_of 0 cs) (record {
            text = own.text ∙ sym (append_assoc first (line_feed ∷ []) _);
            ranges = own.ranges;
            full = own.full;
          }) further x (ap (λ t. (first ++ line_feed ∷ []) ++ t) (range-none texts (d.line + 1) 0) ∙ append-nil _
          ∙ ap (λ t. t ++ line_feed ∷ []) (range-byte texts clear c (d ∷ cs) b start here low)
          ∙ append_assoc before (b ∷ []) (line_feed ∷ []))
          (units.broken further.ends b further.ahead ((λ i. unit_of r (sym x i) (sym k i)) ∙ e) further.closes))
      by (Some b) x (Some y) k true s =
          let sign = held at_sign c.byte s in
          let here = byte-is texts clear (point_at c.line c.column) c (d ∷ cs) at_sign sign is in
          let there = byte-is texts clear _ d cs y k here.next in
          let column : d.column + 1 ≡ c.column + 2 = omega (arith, here.next.0.column) in
          let further = next (point_at d.line (d.column + 1)) (c.column + 2) there.next (omega arith) in
          let same : tokens_of start (c ∷ d ∷ cs) ≡ cut_range r c.line start (c.column + 1) ++ tokens_of
          (c.column + 2) cs =
          tokens ∙ rw s refl in
          subst (Ends before c.byte) (sym same)
          (add-ends before first _ at_sign [] _ _ _ _ (cut at_sign (tokens_of (c.column + 2) cs) here) further sign
          (ap (λ t. first ++ t)
          (ap (range texts d.line (c.column + 2)) column ∙ range-none texts d.line (c.column + 2)) ∙ append-nil first
          ∙ range-byte texts clear c (d ∷ cs) at_sign start here low)
          (search (rules, units.signs, there.next_feed)))
      by (Some b) x (Some y) k false s =
          let here = byte-is texts clear (point_at c.line c.column) c (d ∷ cs) b x is in
          let there = byte-is texts clear _ d cs y k here.next in
          let further = next (point_at d.line (d.column + 1)) start there.next (omega (arith, here.next.0.column)) in
          let same : tokens_of start (c ∷ d ∷ cs) ≡ tokens_of start cs = grind (arith, nat_tests, tokens) in
          subst (Ends before c.byte) (sym same)
          (add-ends before [] _ b (y ∷ []) _ _ _ _ (record { text = refl; ranges = refl; full = refl }) further x
          (range-byte texts clear d cs y start there (omega (arith, here.next.0.column))
          ∙ ap (λ t. t ++ y ∷ [])
          ((λ i. range texts (here.next.0.line i) start (here.next.0.column i))
          ∙ range-byte texts clear c (d ∷ cs) b start here low)
          ∙ append_assoc before (b ∷ []) (y ∷ [])) (search (rules, units.others, there.feed, there.next_feed)))

  -- no text ends in a byte
  last-holds : (c : Cell) → unit_at r (c ∷ []) ≡ unit.Two → Holds 1 (c ∷ [])
  last-holds c e at start is low = grind (arith, nat_tests, region.cut.stops)

  -- a whole text, after its first byte
  pub text-whole : (at : Point) (c : Cell) (cs : List Cell) (b : ℕ) → c.byte ≡ Some b → IsTextAt texts at (c ∷ cs)
      → Ends (b ∷ []) (byte_at 0 cs) (tokens_of c.column cs)
  text-whole at c cs b x is =
      let here = byte-is texts clear at c cs b x is in
      subst (λ t. Ends t (byte_at 0 cs) (tokens_of c.column cs))
      (range-byte texts clear c cs b c.column here (omega arith)
      ∙ ap (λ t. t ++ b ∷ []) (range-none texts c.line c.column))
      (units-by r Holds stop-holds (stop-holds [] (region.cut.stops None))
      (λ n c cs e next. from-cell (suc n) c cs (one-holds n c cs e next))
      (λ n c d cs e next. from-cell (suc (suc n)) c (d ∷ cs) (two-holds n c d cs e next)) last-holds cs
      (point_at c.line (c.column + 1)) c.column here.next (omega arith))
