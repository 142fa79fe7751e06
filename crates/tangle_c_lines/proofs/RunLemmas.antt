-- Bytes, runs of bytes and line marks of a text whose tokens are counted as they are written.
use Rattle.std.proofs.Common.{rules, arith}
use Rattle.std.proofs.lemmas.Bool.Decides.{nat_tests}
use Rattle.std.proofs.Common.{◌≡◌, ℕ, ◌+◌, Bool, true, false, List, [], ◌∷◌, ◌++◌, map, get_or, is_some}
use Rattle.std.proofs.Common.{Option, None, Some, refl, sym, ap, subst, ◌∙◌, append_assoc, append-nil, le_refl}
use Rattle.std.specs.Prelude.{◌==◌, ◌&&◌, ◌||◌, not, if◌then◌else◌}
use Rattle.std.specs.List.{AllByRecursion, AllZip, list_all, list_any}
use Rattle.std.proofs.lemmas.Bool.{and_parts, or_parts, not-true}
use Rattle.c_tokens.specs.Bytes.{line_feed, space}
use Rattle.c_tokens.specs.Borders.{keep_lines}
use Rattle.c_lines.specs.Counting.{Place, LineCount}
use Rattle.c_lines.specs.Counting.{next_place, place_after, tokens_at, directive}
use Rattle.c_lines.specs.Counting.{count_after, unescaped, reads}
use Rattle.c_lines.specs.JoinedLines.{joined_lines, lines_of_each}
use Rattle.c_lines.proofs.JoinedLemmas.{IsInLine}
use Rattle.c_lines.proofs.LineDirectiveLemmas.{line-directive}
use Rattle.tangle_c_tokens.proofs.FeedLemmas.{KeepsFeed, kept-last}
use Rattle.tangle_c_tokens.proofs.DecimalLemmas.{decimal-digits}
use Rattle.tangle_c_tokens.proofs.MarkLemmas.{name-line, name-quoted, quoted, mark_line, mark-keeps}
use Rattle.tangle_c_tokens.specs.LineFeeds.{TextHasNoLineFeed}
use Rattle.tangle_expansion.specs.SymbolLimits.{IsLow}
use Rattle.std.specs.Prelude.{decimal}
use Rattle.std.proofs.lemmas.Bool.{or_from}
use Rattle.std.proofs.lemmas.List.Folds.{list_any-append}
use Rattle.c_lines.proofs.LineDirectiveLemmas.{digits-line}
use Rattle.std.proofs.lemmas.Fmt.{decimal_is_IsNumeral}
use Rattle.c_tokens.specs.Bytes.{double_quote}
use Rattle.tangle_lines.specs.declared.origin.Origin.{Origin}
use Rattle.tangle_scan.specs.LineTruth.{with_line_end}
use Rattle.tangle_scan.specs.Directives.{ForEachChoice}
use Rattle.tangle_expansion.specs.Location.{ByteClass, IsOwnOrigin, border_of}
use Rattle.tangle_c_lines.specs.CountedLines.{no_class, later_border}
use Rattle.tangle_c_lines.proofs.ByteLemmas.{begins_sign, after_byte, each-choice, pending-parts, goes-on}
use Rattle.tangle_c_lines.proofs.ByteLemmas.{counts-feed}
use Rattle.tangle_c_lines.proofs.ByteLemmas.{FileOfBytes, Reader, with_byte, Stands, AreRead, IsOwn, Fits}
use Rattle.tangle_c_lines.proofs.ByteLemmas.{IsPlainByte, IsCountedAs}
use Rattle.tangle_c_lines.proofs.LineEndLemmas.{counts_after, at_front, at_next, ends, counts-end}

-- no byte of the text is a line feed or begins the sign # or its digraph, if an origin is counted
abbrev pub is_plain_text : List ℕ → Bool
is_plain_text bs = list_all (λ b. not (b == line_feed || begins_sign b)) bs

abbrev pub StaysAt : Option Origin → List ℕ → Type 0
StaysAt None bs = Unit {0}
StaysAt (Some o) bs = is_plain_text bs ≡ true

abbrev pub no_classes : List ℕ → List ByteClass
no_classes bs = map (λ b. no_class) bs

-- the byte takes out no line feed after it
abbrev pub keeps : ℕ → Bool
keeps c = keep_lines (c ∷ []) (line_feed ∷ [])

-- the last of these bytes, or what is before them, takes out no line feed
abbrev keeps_after : Bool → List ℕ → Bool
keeps_after kept [] = kept
keeps_after kept (b ∷ bs) = keeps_after (keeps b) bs

keeps_after-from : (kept : Bool) (t : List ℕ) → kept ≡ true → KeepsFeed t → keeps_after kept t ≡ true
keeps_after-from kept [] is keeps = is
keeps_after-from kept (b ∷ t) is keeps = search (rules, keeps_after-from true t)

rows-same : (p : Place) (l : List ℕ) → IsInLine l → (place_after p l).row ≡ p.row
rows-same p [] none = refl
rows-same p (b ∷ l) none = grind (arith, nat_tests, rows-same (next_place p b) l)

joined-more : (line bs rest : List ℕ) → IsInLine bs → joined_lines line (bs ++ rest) ≡ joined_lines (line ++ bs) rest
joined-more line [] rest none = ap (λ l. joined_lines l rest) (sym (append-nil line))
joined-more line (b ∷ bs) rest none =
    grind (arith, nat_tests, joined-more (line ++ b ∷ []) bs rest, append_assoc)

stays-first : (origin : Option Origin) (b : ℕ) (bs : List ℕ) (k : ByteClass) → StaysAt origin (b ∷ bs)
    → IsPlainByte (is_some origin) b k × (after_byte b origin ≡ origin) × StaysAt origin bs
stays-first origin b bs k stays = search (rules, and_parts, not-true, or_parts)

-- names in quotes

-- the name is what is read of it
unescaped-quoted : (name : List ℕ) → unescaped (quoted name) ≡ name
unescaped-quoted [] = refl
unescaped-quoted (b ∷ name) = grind (arith, nat_tests, unescaped-quoted name)

module _ (f : FileOfBytes) where
  -- What is after any line so far, of which each region that the border permits has this property,
  -- is read as it is to be. `kept`: the line so far takes out no line feed after it.
  abbrev pub IsReadOn : Bool → Option Origin → List ℕ → List ByteClass → (Bool → Type 0) → Type 0
  IsReadOn kept origin rest ks T =
      (r : Reader) (choices : List Bool) → keep_lines r.line (line_feed ∷ []) ≡ kept → Stands f r origin rest ks
      → ForEachChoice r.border r.read T → AreRead f r choices rest

  zip-each : {X Y : Type 0} (R S : X → Y → Type 0) (xs : List X) (ys : List Y) → ((x : X) (y : Y) → R x y → S x y)
      → AllZip R xs ys → AllZip S xs ys
  zip-each R S [] ys each h = search (rules, h)
  zip-each R S (x ∷ xs) ys each h = search (rules, zip-each R S xs)

  -- without the origin less is known
  pub forget : (r : Reader) (origin : Option Origin) (rest : List ℕ) (ks : List ByteClass) → Stands f r origin rest ks
      → Stands f r None rest ks
  forget r origin rest ks s =
      let fits = zip-each (Fits f r (is_some origin)) (Fits f r false) _ _
      (λ p b fit. (fit.0, λ known. absurd cc, fit.2)) s.fits in search (rules, fits, s)

  -- one byte, which ends a line or does not
  pub byte-read : (kept : Bool) (c : ℕ) (rest : List ℕ) (k : ByteClass) (ks : List ByteClass)
      (origin : Option Origin) (T : Bool → Type 0)
      → IsPlainByte (is_some origin) c k → IsReadOn (keeps c) (after_byte c origin) rest ks T
      → IsReadOn kept origin (c ∷ rest) (k ∷ ks)
      (λ now. ForEachChoice (border_of k) now (λ after. IsOwnOrigin after origin k × T after))
  byte-read kept c rest k ks origin T plain onward r choices keeps-so s pending = by
      (c == line_feed && keep_lines r.line (line_feed ∷ [])) refl
    where
      parts : IsOwnOrigin r.read origin k × ForEachChoice (later_border r.border (border_of k)) r.read T
      parts = pending-parts r.border k r.read (λ after. IsOwnOrigin after origin k) T pending

      by : (end : Bool) → (c == line_feed && keep_lines r.line (line_feed ∷ [])) ≡ end → AreRead f r choices
          (c ∷ rest)
      by false is = rw is (onward (with_byte r c k) choices (kept-last r.line c [])
          (goes-on f r origin c rest k ks s is parts.0 plain) parts.1)
      by true is =
          let feed = (and_parts (c == line_feed) _ is).0 in
          ends f r choices origin c rest k ks T (after_byte c origin) s is parts.1
          (λ seen firsts. rw feed (counts-end f r origin s.counts seen firsts))
          (λ now more allowed later. onward (at_next r now) more (grind (arith, nat_tests, feed)) later allowed)

  -- bytes that are in no item, after which an origin is still counted, if one is
  bytes-read : (kept : Bool) (bs rest : List ℕ) (ks : List ByteClass) (origin : Option Origin) (T : Bool
      → Type 0) → StaysAt origin bs
      → IsReadOn (keeps_after kept bs) origin rest ks T → IsReadOn kept origin (bs ++ rest) (no_classes bs ++ ks) T
  bytes-read kept [] rest ks origin T stays onward = onward
  bytes-read kept (b ∷ bs) rest ks origin T stays onward = λ r choices keeps-so s pending.
      let first = stays-first origin b bs no_class stays in
      byte-read kept b (bs ++ rest) no_class (no_classes bs ++ ks) origin T first.0
      (rw first.1 (bytes-read (keeps b) bs rest ks origin T first.2 onward))
      r choices keeps-so s (each-choice r.border r.read T _ (λ now h. (tt, h)) pending)

  -- any text, where no origin is counted
  pub loose-read : (bs rest : List ℕ) (ks : List ByteClass) (T : Bool → Type 0) → KeepsFeed bs
      → IsReadOn true None rest ks T → IsReadOn true None (bs ++ rest) (no_classes bs ++ ks) T
  loose-read bs rest ks T keeps-end onward =
      bytes-read true bs rest ks None T tt (rw (keeps_after-from true bs refl keeps-end) onward)

  -- a text without a line feed, whose first byte has this class
  pub plain-read : (kept : Bool) (c : ℕ) (bs rest : List ℕ) (k : ByteClass) (ks : List ByteClass)
      (origin : Option Origin) (T : Bool → Type 0) → is_plain_text (c ∷ bs) ≡ true → KeepsFeed (c ∷ bs)
      → IsReadOn true origin rest ks T → IsReadOn kept origin (c ∷ bs ++ rest) (k ∷ no_classes bs ++ ks)
      (λ now. ForEachChoice (border_of k) now (λ after. IsOwnOrigin after origin k × T after))
  plain-read kept c bs rest k ks origin T plain keeps-end onward =
      let stays : StaysAt origin (c ∷ bs) = search (rules, plain) in
      let first = stays-first origin c bs k stays in
      byte-read kept c (bs ++ rest) k (no_classes bs ++ ks) origin T first.0
      (subst (λ (o : Option Origin). IsReadOn (keeps c) o (bs ++ rest) (no_classes bs ++ ks) T) (sym first.1)
      (bytes-read (keeps c) bs rest ks origin T first.2 (rw (keeps_after-from true (c ∷ bs) refl keeps-end) onward)))

  -- a text without a line feed, where no origin is counted
  run : (r : Reader) (bs rest : List ℕ) (ks : List ByteClass) → IsInLine bs → Stands f r None (bs ++ rest)
      (no_classes bs ++ ks)
      → Stands f (record r { line = r.line ++ bs; here = place_after r.here bs }) None rest ks
  run r [] rest ks none s = rw (append-nil r.line) s
  run r (b ∷ bs) rest ks none s =
      let parts = or_parts (b == line_feed) (list_any (λ b. b == line_feed) bs) none in
      rw (← append_assoc r.line (b ∷ []) bs)
      (run (with_byte r b no_class) bs rest ks parts.1
      (subst (λ (feed : Bool). Stands f (with_byte r b no_class) (if feed then None else None) (bs ++ rest)
      (no_classes bs ++ ks)) parts.0
      (goes-on f r None b (bs ++ rest) no_class (no_classes bs ++ ks) s
      (ap (λ feed. feed && keep_lines r.line (line_feed ∷ [])) parts.0) tt (λ is. absurd cc))))

  -- a `#line`, which begins a line of C
  module _ (own : Origin) (low : IsLow own) (clear : TextHasNoLineFeed (get_or f.names own.file [])) where
    abbrev name : List ℕ
    name = get_or f.names own.file []

    abbrev line : List ℕ
    line = mark_line own.line name

    quotes : IsInLine (double_quote ∷ quoted name)
    quotes = name-line name (double_quote ∷ []) clear refl

    in_line : IsInLine line
    in_line =
        list_any-append (λ b. b == line_feed) (decimal own.line) (space ∷ double_quote ∷ quoted name)
        ∙ or_from _ _ (digits-line (decimal own.line) (decimal-digits own.line)) quotes

    new : (start : Place) (read : Bool) (count : LineCount) (origin : Option Origin)
        → IsCountedAs f count start.row origin
        → IsCountedAs f (if read then count_after count (Some (place_after start line))
        (directive (tokens_at start line)) else count)
        ((place_after start line).row + 1) (if read then Some own else with_line_end origin)
    new start true count origin counts =
        let numeral = decimal_is_IsNumeral own.line (omega (arith, low)) in
        let is = line-directive start (decimal own.line) (double_quote ∷ quoted name) (decimal-digits own.line)
        (grind (arith, nat_tests, numeral.0.0)) (name-quoted name clear) quotes in
        rw (is.1, decimal-digits own.line, name-quoted name clear, unescaped-quoted name, numeral.1)
        (le_refl _, ap (λ (n : ℕ). record { file = name; line = n }) (omega arith))
    new start false count origin counts = rw (rows-same start line in_line)
        (counts-feed f count start.row origin counts)

    pub line-read : (rest : List ℕ) (ks : List ByteClass) (origin : Option Origin) (start : Place) (read : Bool)
        (count : LineCount) (choices : List Bool)
        → Stands f (at_front start read count) origin (line ++ line_feed ∷ rest) (no_classes line ++ no_class ∷ ks)
        → ((next : Place) (count : LineCount) (choices : List Bool)
        → Stands f (at_front next read count) (if read then Some own else with_line_end origin) rest ks
        → AreRead f (at_front next read count) choices rest) → AreRead f (at_front start read count) choices
        (line ++ line_feed ∷ rest)
    line-read rest ks origin start read count choices s onward =
        let after : Reader = record (at_front start read count) { line = line; here = place_after start line } in
        let now_at = λ (now : Bool). at_front (next_place after.here line_feed) now (counts_after after) in
        subst (λ ls. AllByRecursion (IsOwn f) (reads choices read count (lines_of_each start ls)))
        (sym (joined-more [] line (line_feed ∷ rest) in_line))
        (ends f after choices None line_feed rest no_class ks (λ now. now ≡ read)
        (if read then Some own else with_line_end origin)
        (run (at_front start read count) line (line_feed ∷ rest) (no_class ∷ ks) in_line
        (forget (at_front start read count) origin _ _ s))
        (mark-keeps own.line name) refl (λ seen firsts. new start read count origin s.counts)
        (λ now choices is later. subst (λ (r : Bool). AreRead f (now_at r) choices rest) (sym is)
        (onward (next_place after.here line_feed) (counts_after after) choices
        (subst (λ (r : Bool). Stands f (now_at r)
        (if read then Some own else with_line_end origin) rest ks) is later))))
