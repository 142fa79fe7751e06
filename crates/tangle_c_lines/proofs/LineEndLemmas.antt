-- The end of a line of C in a text whose tokens are counted as they are written.
use Rattle.std.proofs.Common.{rules, arith}
use Rattle.std.proofs.lemmas.Bool.{cond_both, false≢true, and_parts}
use Rattle.std.proofs.lemmas.Bool.Decides.{nat_tests}
use Rattle.std.proofs.lemmas.Slice.Eq.{bytes_eq-Decides}
use Rattle.std.proofs.Common.{◌≡◌, ℕ, ◌+◌, Bool, true, false, List, [], ◌∷◌, is_some}
use Rattle.std.proofs.Common.{Option, None, Some, ◌⊎◌, refl, sym, subst}
use Rattle.std.specs.Prelude.{◌==◌, ◌&&◌, if◌then◌else◌, slice_index_or}
use Rattle.std.specs.List.{AllByRecursion}
use Rattle.c_tokens.specs.Bytes.{line_feed}
use Rattle.c_tokens.specs.Borders.{keep_lines}
use Rattle.c_lines.specs.Counting.{Place, PlacedElement, LineOfTokens, LineCount}
use Rattle.c_lines.specs.Counting.{next_place, place_after, tokens_at, directive, begins_group, turns_group}
use Rattle.c_lines.specs.Counting.{count_after, read_of, reads, region_after}
use Rattle.c_lines.specs.JoinedLines.{joined_lines, lines_of_each}
use Rattle.c_lines.proofs.JoinedLemmas.{joined-is}
use Rattle.tangle_c_tokens.proofs.ListLemmas.{all-append, all-each, all-map}
use Rattle.tangle_lines.specs.declared.origin.Origin.{Origin}
use Rattle.tangle_scan.specs.LineTruth.{with_line_end}
use Rattle.tangle_scan.specs.Directives.{Border, SameRegion, GroupTurns, ForEachChoice}
use Rattle.tangle_expansion.specs.Location.{ByteClass, border_of}
use Rattle.tangle_c_lines.specs.CountedLines.{later_border, is_between_regions, sets_line, IsSeen}
use Rattle.tangle_c_lines.proofs.SignLemmas.{IsFirst, tokens-first}
use Rattle.tangle_c_lines.proofs.ByteLemmas.{rest-drop, same-choice, FileOfBytes, Reader, Stands, AreRead}
use Rattle.tangle_c_lines.proofs.ByteLemmas.{IsOwn, Fits}
use Rattle.tangle_c_lines.proofs.ByteLemmas.{IsCountedAs, counts-feed, border_between, border-none}
use Rattle.tangle_c_lines.proofs.ByteLemmas.{border-next, border-later}

-- the tokens of the line so far
abbrev pub tokens_of : Reader → List PlacedElement
tokens_of r = tokens_at r.start r.line

-- the line, if it ends there
abbrev pub line_of : Reader → LineOfTokens
line_of r = record { tokens = tokens_of r; end = Some r.here }

-- the count after the line, if it ends there
abbrev pub counts_after : Reader → LineCount
counts_after r = if r.read then count_after r.count (Some r.here) (directive (tokens_of r)) else r.count

-- at the front of a line
abbrev pub at_front : Place → Bool → LineCount → Reader
at_front start read count =
    record { start = start; line = []; here = start; read = read; count = count; border = SameRegion }

abbrev pub at_next : Reader → Bool → Reader
at_next r now = at_front (next_place r.here line_feed) now (counts_after r)

-- the first line, if a line feed ends it, and those after it
lines-split : (r : Reader) (c : ℕ) (rest : List ℕ) → place_after r.start r.line ≡ r.here
    → (c == line_feed && keep_lines r.line (line_feed ∷ [])) ≡ true
    → lines_of_each r.start (joined_lines r.line (c ∷ rest))
    ≡ line_of r ∷ lines_of_each (next_place r.here line_feed) (joined_lines [] rest)
lines-split r c rest at is = rw (is, joined-is [] rest, at) refl

-- a line that is no `#line` leaves the count
same-count : (count : LineCount) (end : Place) (words : List (List ℕ)) → sets_line words ≡ false → count_after count
    (Some end) words ≡ count
same-count count end words none = search rules

-- the region after a line is one that its border permits, if its directive is seen
region-chosen : (own border : Border) (read choice b t : Bool) (T : Bool → Type 0)
    → (b ≡ true → is_between_regions own ≡ true) → (t ≡ true → own ≡ GroupTurns)
    → (own ≡ SameRegion) ⊎ (own ≡ border)
    → ForEachChoice border read T → T (if b then read && choice else if t then choice else read)
region-chosen own border read choice b t T begins turns own-is h = search (rules, false≢true, and_parts, same-choice)

module _ (f : FileOfBytes) where
  -- what is known of the first byte of a token of the line
  abbrev pub FirstFits : Reader → Bool → PlacedElement → Type 0
  FirstFits r known = IsFirst (Fits f r known)

  -- the tokens of a line
  read-own : (r : Reader) (known : Bool) → AllByRecursion (FirstFits r known) (tokens_of r)
      → AllByRecursion (IsOwn f) (if r.read then read_of r.count (tokens_of r) else [])
  read-own r known firsts = search (rules, cond_both, all-map, all-each)

  region-read : (r : Reader) (known choice : Bool) (T : Bool → Type 0) (es : List PlacedElement)
      → AllByRecursion (FirstFits r known) es → IsSeen f.classes (record { tokens = es; end = Some r.here })
      → ForEachChoice (border_between f r.start.at (r.here.at + 1)) r.read T
      → T (region_after (directive es) choice r.read)
  region-read r known choice T [] firsts seen h = same-choice _ r.read T h
  region-read r known choice T (e ∷ es) firsts seen h =
      region-chosen _ _ r.read choice (begins_group (directive (e ∷ es))) (turns_group (directive (e ∷ es))) T
      seen.begins seen.turns (border-later f r.start.at e.place.at (r.here.at + 1) firsts.0.2.2) h

  -- A line feed ends a line. `onward`: what is after it is read as it is to be, in a region that the
  -- border permits.
  pub ends : (r : Reader) (choices : List Bool) (origin : Option Origin) (c : ℕ) (rest : List ℕ) (k : ByteClass)
      (ks : List ByteClass) (T : Bool → Type 0) (next : Option Origin) → Stands f r origin (c ∷ rest) (k ∷ ks)
      → (c == line_feed && keep_lines r.line (line_feed ∷ [])) ≡ true → ForEachChoice
      (later_border r.border (border_of k)) r.read T
      → (IsSeen f.classes (line_of r) → AllByRecursion (FirstFits r (is_some origin)) (tokens_of r)
      → IsCountedAs f (counts_after r) (r.here.row + 1) next)
      → ((now : Bool) (more : List Bool) → T now → Stands f (at_next r now) next rest ks
      → AreRead f (at_next r now) more rest) → AreRead f r choices (c ∷ rest)
  ends r choices origin c rest k ks T next s is pending new onward =
      let split = lines-split r c rest s.at is in
      let classes = rest-drop f.classes r.here.at k ks s.classes_are in
      let seen = subst (AllByRecursion (IsSeen f.classes)) split s.seen in
      let firsts = tokens-first (Fits f r (is_some origin)) r.start r.line s.fits in
      subst (λ ls. AllByRecursion (IsOwn f) (reads choices r.read r.count ls)) (sym split)
      (all-append (IsOwn f) _ _ (read-own r (is_some origin) firsts) (onward _ _
      (region-read r (is_some origin) (slice_index_or choices 0 true) T (tokens_of r) firsts seen.0
      (subst (λ b. ForEachChoice b r.read T) (sym (border-next f r origin c rest k ks s)) pending))
      (search (rules, new seen.0 firsts, border-none f, seen.1, classes))))

  -- a line whose bytes are plain is no `#line`
  no-line : (r : Reader) (es : List PlacedElement) → AllByRecursion (FirstFits r true) es
      → IsSeen f.classes (record { tokens = es; end = Some r.here }) → sets_line (directive es) ≡ false
  no-line r [] firsts seen = refl
  no-line r (e ∷ es) firsts seen =
      grind (arith, nat_tests, bytes_eq-Decides e.text, firsts.0.2.1 refl, seen.marks, firsts.0.1)

  -- the count after a line that is no mark
  pub counts-end : (r : Reader) (origin : Option Origin) → IsCountedAs f r.count r.here.row origin
      → IsSeen f.classes (line_of r) → AllByRecursion (FirstFits r (is_some origin)) (tokens_of r)
      → IsCountedAs f (counts_after r) (r.here.row + 1) (with_line_end origin)
  counts-end r None counts seen firsts = tt
  counts-end r (Some o) counts seen firsts =
      let same = same-count r.count r.here (directive (tokens_of r)) (no-line r (tokens_of r) firsts seen) in
      search (rules, counts-feed f r.count r.here.row (Some o) counts, same)

  -- the last line
  pub last-read : (r : Reader) (choices : List Bool) (origin : Option Origin) (ks : List ByteClass)
      → Stands f r origin [] ks → AreRead f r choices []
  last-read r choices origin ks s =
      all-append (IsOwn f) _ [] (read-own r (is_some origin) (tokens-first _ r.start r.line s.fits)) tt
