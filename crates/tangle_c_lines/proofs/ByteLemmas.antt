-- One byte after another of a text whose tokens are counted as they are written.
use Rattle.std.proofs.Common.{rules, arith}
use Rattle.std.proofs.Common.{◌≡◌, ℕ, ◌+◌, ◌-◌, ◌≤◌, zero, suc, Bool, true, false, List, [], ◌∷◌, ◌++◌, take}
use Rattle.std.proofs.Common.{drop, get_or, is_some}
use Rattle.std.proofs.Common.{Option, None, Some, ◌⊎◌, inl, inr, refl, sym, ap, subst, ◌∙◌, drop-drop, add-zero}
use Rattle.std.specs.Prelude.{◌==◌, ◌&&◌, ◌||◌, if◌then◌else◌}
use Rattle.std.specs.List.{AllByRecursion, AllZip}
use Rattle.std.proofs.lemmas.List.{get_or-drop, drop-take, take_more, drop-append-le, length-take-le, length-drop}
use Rattle.c_tokens.specs.Bytes.{line_feed}
use Rattle.c_tokens.specs.Borders.{keep_lines}
use Rattle.c_tokens.specs.Reading.{spliced}
use Rattle.c_lines.specs.Counting.{Place, LineCount, PresumedLine, TokenRead}
use Rattle.c_lines.specs.Counting.{next_place, place_after, places, counted, reads}
use Rattle.c_lines.specs.JoinedLines.{joined_lines, lines_of_each}
use Rattle.tangle_lines.specs.declared.origin.Origin.{Origin}
use Rattle.tangle_scan.specs.LineTruth.{with_line_end}
use Rattle.tangle_scan.specs.Directives.{Border, SameRegion, ForEachChoice}
use Rattle.tangle_expansion.specs.Location.{ByteClass, IsOwnOrigin, border_of}
use Rattle.tangle_c_lines.specs.CountedLines.{no_class, class_of_byte, is_of_item, later_border, last_border}
use Rattle.tangle_c_lines.specs.CountedLines.{IsSeen, IsCountedAtItsLine}
use Rattle.tangle_c_lines.proofs.SignLemmas.{line-more}

-- lists

-- the element of a list at a place
at-drop : {X : Type 0} (d : X) (xs : List X) (n : ℕ) (x : X) (rest : List X) → drop n xs ≡ x ∷ rest
    → get_or xs n d ≡ x
at-drop d xs n x rest e = grind (arith, get_or-drop n xs 0 d, e)

pub rest-drop : {X : Type 0} (xs : List X) (n : ℕ) (x : X) (rest : List X) → drop n xs ≡ x ∷ rest → drop
    (n + 1) xs ≡ rest
rest-drop xs n x rest e = sym (drop-drop 1 n xs) ∙ ap (drop 1) e

-- borders

last-one : (classes : List ByteClass) (k : ByteClass) → last_border (classes ++ k ∷ []) ≡ later_border
    (last_border classes) (border_of k)
last-one [] k = search rules
last-one (c ∷ classes) k = search (rules, last-one classes k)

last-of-rest : (i : ℕ) (classes : List ByteClass)
    → (last_border (drop i classes) ≡ SameRegion) ⊎ (last_border (drop i classes) ≡ last_border classes)
last-of-rest zero classes = inr refl
last-of-rest (suc i) [] = inl refl
last-of-rest (suc i) (k ∷ classes) = search (rules, last-of-rest i classes)

-- the region that is read before a border may be read after it
pub same-choice : (b : Border) (read : Bool) (T : Bool → Type 0) → ForEachChoice b read T → T read
same-choice b read T h = search rules

pub each-choice : (b : Border) (read : Bool) (P Q : Bool → Type 0) → ((now : Bool) → P now → Q now)
    → ForEachChoice b read P → ForEachChoice b read Q
each-choice b read P Q f h = search rules

-- of two borders on one line of C the later one counts
later-choice : (b c : Border) (read : Bool) (T : Bool → Type 0) → ForEachChoice b read (λ now. ForEachChoice c now T)
    → ForEachChoice (later_border b c) read T
later-choice b SameRegion read T h = h
later-choice b c read T h = same-choice b read (λ now. ForEachChoice c now T) h

-- of what is to be after a byte of this class: the part of the byte itself, and the rest
pub pending-parts : (b : Border) (k : ByteClass) (read : Bool) (P T : Bool → Type 0)
    → ForEachChoice b read (λ now. ForEachChoice (border_of k) now (λ after. P after × T after))
    → P read × ForEachChoice (later_border b (border_of k)) read T
pending-parts b k read P T h = (
  (same-choice (border_of k) read _ (same-choice b read _ h)).0,
  each-choice (later_border b (border_of k)) read _ T (λ now both. both.1) (later-choice b (border_of k) read _ h),
)

-- places

after-more : (p : Place) (l : List ℕ) (b : ℕ) → place_after p (l ++ b ∷ []) ≡ next_place (place_after p l) b
after-more p [] b = refl
after-more p (c ∷ l) b = after-more (next_place p c) l b

after-at : (p : Place) (l : List ℕ) → p.at ≤ (place_after p l).at
after-at p [] = omega arith
after-at p (b ∷ l) = omega (arith, after-at (next_place p b) l)

-- the byte is the first byte of the sign # or its digraph
abbrev pub begins_sign : ℕ → Bool
begins_sign b = b == 35 || b == 37

abbrev pub after_byte : ℕ → Option Origin → Option Origin
after_byte b origin = if b == line_feed then with_line_end origin else origin

-- a byte that is in no item, where an origin is counted, begins no sign #
abbrev pub IsPlainByte : Bool → ℕ → ByteClass → Type 0
IsPlainByte known b class = known ≡ true → is_of_item class ≡ false → begins_sign b ≡ false

known-after : (b : ℕ) (origin : Option Origin) → is_some (after_byte b origin) ≡ is_some origin
known-after b origin = search rules

-- a file: the names of the files of its source, and the classes of its bytes
pub record FileOfBytes : Type 0 where
  pub names : List (List ℕ)
  pub classes : List ByteClass

-- Where a reader is in a line of C: the place of the line, its bytes so far and the place after them,
-- whether its region is read, how rows are counted, and the last border of regions on the line.
pub record Reader : Type 0 where
  pub start : Place
  pub line : List ℕ
  pub here : Place
  pub read : Bool
  pub count : LineCount
  pub border : Border

-- after one byte more of the line, which has this class
abbrev pub with_byte : Reader → ℕ → ByteClass → Reader
with_byte r c k =
    record r { line = r.line ++ c ∷ []; here = next_place r.here c; border = later_border r.border (border_of k) }

begins : (r : Reader) → place_after r.start r.line ≡ r.here → r.start.at ≤ r.here.at
begins r at = subst (λ p. r.start.at ≤ p.at) at (after-at r.start r.line)

module _ (f : FileOfBytes) where
  abbrev pub presumed : Origin → PresumedLine
  presumed own = record { file = get_or f.names own.file []; line = own.line }

  -- the token is at its line
  abbrev pub IsOwn : TokenRead → Type 0
  IsOwn t = IsCountedAtItsLine f.names (class_of_byte f.classes t.at) t.origin

  -- A byte of this class on a reader's line. A token that begins with it is at its line.
  abbrev pub FitsAs : Reader → Bool → Place → ℕ → ByteClass → Type 0
  FitsAs r known p b class =
      (r.read ≡ true → IsCountedAtItsLine f.names class (counted r.count p.row))
      × IsPlainByte known b class × (r.start.at ≤ p.at)

  abbrev pub Fits : Reader → Bool → Place → ℕ → Type 0
  Fits r known p b = FitsAs r known p b (class_of_byte f.classes p.at)

  -- a row is counted as this origin, if there is one
  abbrev pub IsCountedAs : LineCount → ℕ → Option Origin → Type 0
  IsCountedAs count row None = Unit {0}
  IsCountedAs count row (Some o) = (count.row ≤ row) × (counted count row ≡ presumed o)

  -- the last border of the bytes between these two places
  abbrev pub border_between : ℕ → ℕ → Border
  border_between from to = last_border (drop from (take to f.classes))

  -- A reader stands in the middle of the file: `rest` are the bytes after it, and `ks` their classes.
  pub record Stands (r : Reader) (origin : Option Origin) (rest : List ℕ) (ks : List ByteClass) : Type 0 where
    pub at : place_after r.start r.line ≡ r.here
    pub fits : AllZip (Fits r (is_some origin)) (places r.start r.line) (spliced r.line)
    pub counts : IsCountedAs r.count r.here.row origin
    pub border : border_between r.start.at r.here.at ≡ r.border
    pub seen : AllByRecursion (IsSeen f.classes) (lines_of_each r.start (joined_lines r.line rest))
    pub classes_are : drop r.here.at f.classes ≡ ks

  -- all tokens that are read of the line and the rest are at their lines
  abbrev pub AreRead : Reader → List Bool → List ℕ → Type 0
  AreRead r choices rest =
      AllByRecursion IsOwn (reads choices r.read r.count (lines_of_each r.start (joined_lines r.line rest)))

  -- nothing is between a place and itself
  pub border-none : (n : ℕ) → border_between n n ≡ SameRegion
  border-none n = ap last_border (subst (λ k. drop n (take k f.classes) ≡ []) (add-zero n) (drop-take n 0 f.classes))

  -- between two places, and one byte more
  border-more : (from to : ℕ) (k : ByteClass) (ks : List ByteClass) → from ≤ to → drop to f.classes ≡ k ∷ ks
      → border_between from (to + 1) ≡ later_border (border_between from to) (border_of k)
  border-more from to k ks le e =
      let is = at-drop no_class f.classes to k ks e in
      let front = drop-append-le from (take to f.classes) (k ∷ []) in
      let long = length-drop to f.classes in
      grind (arith, take_more f.classes to no_class, is, long, front, length-take-le to f.classes, last-one, e)

  -- between a later place and the second one there is no border, or the same
  pub border-later : (from p to : ℕ) → from ≤ p → (border_between p to ≡ SameRegion) ⊎
      (border_between p to ≡ border_between from to)
  border-later from p to le =
      let h = last-of-rest (p - from) (drop from (take to f.classes)) in
      let same : drop (p - from) (drop from (take to f.classes)) ≡ drop p (take to f.classes) =
      drop-drop (p - from) from (take to f.classes) ∙ ap (λ n. drop n (take to f.classes)) (omega (arith, le)) in
      subst (λ l. (last_border l ≡ SameRegion) ⊎ (last_border l ≡ border_between from to)) same h

  -- the last border of the line after one byte more
  pub border-next : (r : Reader) (origin : Option Origin) (c : ℕ) (rest : List ℕ) (k : ByteClass)
      (ks : List ByteClass)
      → Stands r origin (c ∷ rest) (k ∷ ks)
      → border_between r.start.at (r.here.at + 1) ≡ later_border r.border (border_of k)
  border-next r origin c rest k ks s =
      border-more r.start.at r.here.at k ks (begins r s.at) s.classes_are
      ∙ ap (λ b. later_border b (border_of k)) s.border

  -- one byte

  pub counts-feed : (count : LineCount) (row : ℕ) (origin : Option Origin) → IsCountedAs count row origin
      → IsCountedAs count (row + 1) (with_line_end origin)
  counts-feed count row origin h = grind (arith, h)

  -- a byte with which the line goes on
  pub goes-on : (r : Reader) (origin : Option Origin) (c : ℕ) (rest : List ℕ) (k : ByteClass) (ks : List ByteClass)
      → Stands r origin (c ∷ rest) (k ∷ ks) → (c == line_feed && keep_lines r.line (line_feed ∷ [])) ≡ false
      → IsOwnOrigin r.read origin k → IsPlainByte (is_some origin) c k → Stands (with_byte r c k)
      (after_byte c origin) rest ks
  goes-on r origin c rest k ks s none own plain = record {
    at = after-more r.start r.line c ∙ ap (λ p. next_place p c) s.at;
    fits = subst (λ known. AllZip (Fits r known) (places r.start (r.line ++ c ∷ [])) (spliced (r.line ++ c ∷ [])))
        (sym (known-after c origin)) (line-more _ r.start r.line c s.fits
        (subst (λ p. Fits r (is_some origin) p c) (sym s.at) (subst (FitsAs r (is_some origin) r.here c)
        (sym (at-drop no_class f.classes r.here.at k ks s.classes_are))
        (λ now. search (rules, own, s.counts), plain, begins r s.at))));
    counts = search (rules, counts-feed r.count r.here.row origin s.counts, s.counts);
    border = border-next r origin c rest k ks s;
    seen = subst (λ b. AllByRecursion (IsSeen f.classes) (lines_of_each r.start
        (if b then r.line ∷ joined_lines [] rest else joined_lines (r.line ++ c ∷ []) rest))) none s.seen;
    classes_are = rest-drop f.classes r.here.at k ks s.classes_are;
  }
