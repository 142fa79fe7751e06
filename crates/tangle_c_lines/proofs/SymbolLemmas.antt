-- The symbols of an expansion are counted as they are written.
use Rattle.std.proofs.Common.{rules, arith}
use Rattle.std.proofs.Common.{◌≡◌, ℕ, Bool, true, false, List, [], ◌∷◌, ◌++◌, drop, get_or}
use Rattle.std.proofs.Common.{Option, None, Some, refl, sym, ap, subst, ◌∙◌, append_assoc}
use Rattle.std.specs.Prelude.{◌==◌, if◌then◌else◌, codes, decimal}
use Rattle.std.specs.List.{AllByRecursion, AllZip, list_all}
use Rattle.std.proofs.lemmas.Bool.{true≢false}
use Rattle.std.proofs.lemmas.Bool.Decides.{nat_tests}
use Rattle.std.proofs.lemmas.List.{map-append}
use Rattle.c_tokens.specs.Bytes.{line_feed, space, is_digit}
use Rattle.c_lines.specs.Counting.{next_place}
use Rattle.tangle_files.specs.declared.marks.MarkMode.TheVariants.{Full}
use Rattle.tangle_lines.specs.declared.origin.Origin.{Origin}
use Rattle.tangle_scan.specs.Web.{WebRead}
use Rattle.tangle_scan.specs.LineTruth.{with_line_end, origin_after_mark}
use Rattle.tangle_scan.specs.Directives.{ForEachChoice}
use Rattle.tangle_names.specs.NameTable.{TableRead}
use Rattle.tangle_bodies.specs.Shapes.{Title}
use Rattle.tangle_bodies.specs.Flat.{Symbol, Byte, Opening, MarkOf, Closing, AllMacros}
use Rattle.tangle_expansion.specs.Location.{ByteClass, OfItem, LineFeed, Other, IsOwnOrigin, border_of}
use Rattle.tangle_expansion.specs.Location.{origin_after, AreAtTheirOrigins}
use Rattle.tangle_expansion.specs.Numbers.{NumbersRead, numbers_of, numbers_at, origin_of_mark, mark_bytes_at}
use Rattle.tangle_expansion.specs.Numbers.{expansion_bytes, symbol_bytes}
use Rattle.tangle_expansion.specs.Numbers.{opening_bytes, closing_bytes, mark_bytes}
use Rattle.tangle_expansion.specs.SymbolLimits.{IsLow}
use Rattle.tangle_c_tokens.specs.LineFeeds.{TextHasNoLineFeed}
use Rattle.tangle_c_lines.specs.CountedLines.{no_class, classes_of_bytes}
use Rattle.tangle_c_tokens.proofs.DecimalLemmas.{decimal-digits}
use Rattle.tangle_c_tokens.proofs.FeedLemmas.{KeepsFeed, keeps-last, closing-keeps}
use Rattle.tangle_c_tokens.proofs.MarkLemmas.{mark_line, mark_end-at, name-at}
use Rattle.tangle_c_lines.proofs.ByteLemmas.{FileOfBytes, after_byte, each-choice, pending-parts}
use Rattle.tangle_c_lines.proofs.LineEndLemmas.{counts_after, at_front, ends, counts-end, last-read}
use Rattle.tangle_c_lines.proofs.RunLemmas.{is_plain_text, no_classes, keeps, IsReadOn, forget, byte-read}
use Rattle.tangle_c_lines.proofs.RunLemmas.{loose-read, plain-read, line-read}

-- comments

digits-plain : (digits more : List ℕ) → list_all is_digit digits ≡ true → is_plain_text more ≡ true → is_plain_text
    (digits ++ more) ≡ true
digits-plain [] more all h = h
digits-plain (d ∷ digits) more all h = grind (arith, nat_tests, digits-plain digits more)

-- what symbols of these classes are

-- a byte of an item is no line feed, the class of a line feed is that of one, and each other byte is
-- a space
abbrev pub FitsClass : Symbol → ByteClass → Type 0
FitsClass (Byte b) (OfItem own in_stretch) = (b == line_feed) ≡ false
FitsClass (Byte b) (LineFeed border) = b ≡ line_feed
FitsClass (Byte b) (Other border) = b ≡ space
FitsClass symbol class = Unit {0}

-- No mark is directly after a backslash, which would take out its line feed. `kept`: nothing that is
-- before these symbols does.
abbrev pub AreKept : Bool → List Symbol → Type 0
AreKept kept [] = Unit {0}
AreKept kept (Byte b ∷ symbols) = AreKept (keeps b) symbols
AreKept kept (MarkOf node piece mark ∷ symbols) = (kept ≡ true) × AreKept true symbols
AreKept kept (symbol ∷ symbols) = AreKept true symbols

module _ (web : WebRead) (table : TableRead) (named : AllByRecursion TextHasNoLineFeed web.file_names)
    (low : (node : Title) (piece mark : ℕ) → IsLow (origin_of_mark (numbers_of web table Full) node piece mark))
    (macros_keep : KeepsFeed (numbers_of web table Full).macros)
    (all : List ByteClass) where
  abbrev numbers : NumbersRead
  numbers = numbers_of web table Full

  abbrev file : FileOfBytes
  file = record { names = web.file_names; classes = all }

  abbrev ReadOn : Bool → Option Origin → List ℕ → List ByteClass → (Bool → Type 0) → Type 0
  ReadOn kept origin rest ks T = IsReadOn file kept origin rest ks T

  -- the bytes of a mark
  mark-is : (o : Origin) → mark_bytes_at numbers o ≡ line_feed ∷
      (mark_line o.line (get_or web.file_names o.file []) ++ line_feed ∷ [])
  mark-is o = ap (λ ending. mark_bytes Full ending o.line) (mark_end-at web.file_names o.file) ∙
      (search (rules, append_assoc))

  -- the bytes of a symbol, of those after it, and what is after them
  grouped : (kept : Bool) (origin : Option Origin) (a b c : List ℕ) (x y z : List ByteClass) (T : Bool → Type 0)
      → ReadOn kept origin (a ++ (b ++ c)) (x ++ (y ++ z)) T → ReadOn kept origin ((a ++ b) ++ c) ((x ++ y) ++ z) T
  grouped kept origin a b c x y z T h = rw (append_assoc a b c, append_assoc x y z) h

  -- the bytes of symbols and the last line feed, and their classes
  abbrev later : List Symbol → List ℕ
  later symbols = expansion_bytes numbers symbols ++ line_feed ∷ []

  abbrev more : List Symbol → List ByteClass → List ByteClass
  more symbols classes = classes_of_bytes numbers symbols classes ++ no_class ∷ []

  one-symbol : (symbol : Symbol) (symbols : List Symbol) (k : ByteClass) (classes : List ByteClass) (kept : Bool)
      (origin : Option Origin) (T : Bool → Type 0) → let bytes = symbol_bytes numbers symbol in
      ReadOn kept origin (bytes ++ later symbols) (k ∷ no_classes (drop 1 bytes) ++ more symbols classes) T
      → ReadOn kept origin (later (symbol ∷ symbols)) (more (symbol ∷ symbols) (k ∷ classes)) T
  one-symbol symbol symbols k classes kept origin T h = simp append_assoc h

  -- a line mark

  mark-read : (o : Origin) → IsLow o → (rest : List ℕ) (k : ByteClass) (ks : List ByteClass) (origin : Option Origin)
      (T : Bool → Option Origin → Type 0) → ((after : Option Origin) → ReadOn true after rest ks (λ now. T now after))
      → ReadOn true origin (mark_bytes_at numbers o ++ rest) (k ∷ no_classes (drop 1 (mark_bytes_at numbers o)) ++ ks)
      (λ now. ForEachChoice (border_of k) now
      (λ after. IsOwnOrigin after origin k × T after (origin_after_mark after o origin)))
  mark-read o is_low rest k ks origin T onward =
      let name : List ℕ = get_or web.file_names o.file [] in
      let none = name-at web.file_names o.file named in
      let line : List ℕ = mark_line o.line name in
      let P : Bool → Type 0 = λ now. ForEachChoice (border_of k) now
      (λ after. IsOwnOrigin after origin k × T after (origin_after_mark after o origin)) in
      subst (λ (bytes : List ℕ). ReadOn true origin (bytes ++ rest) (k ∷ no_classes (drop 1 bytes) ++ ks) P)
      (sym (mark-is o))
      (subst (λ (marked : List ByteClass). ReadOn true origin ((line_feed ∷ line ++ line_feed ∷ []) ++ rest)
      (k ∷ marked ++ ks) P)
      (sym (map-append (λ b. no_class) line (line_feed ∷ [])))
      (grouped true origin (line_feed ∷ line) (line_feed ∷ []) rest (k ∷ no_classes line) (no_class ∷ []) ks P
      (λ r choices keeps-so s pending.
      ends file r choices origin line_feed (line ++ line_feed ∷ rest) k (no_classes line ++ no_class ∷ ks)
      (λ after. T after (origin_after_mark after o origin)) (with_line_end origin) s keeps-so
      (pending-parts r.border k r.read (λ after. IsOwnOrigin after origin k)
      (λ after. T after (origin_after_mark after o origin)) pending).1
      (counts-end file r origin s.counts)
      (λ now choices t later.
      line-read file o is_low none rest ks (with_line_end origin) (next_place r.here line_feed) now
      (counts_after r) choices later
      (λ next count choices stands.
      onward (if now then Some o else with_line_end (with_line_end origin))
      (at_front next now count) choices refl stands t)))))

  pub symbols-read : (symbols : List Symbol) (classes : List ByteClass) (kept : Bool) (origin : Option Origin)
      → AllZip FitsClass symbols classes → AreKept kept symbols
      → ReadOn kept origin (later symbols) (more symbols classes)
      (λ now. AreAtTheirOrigins numbers now origin symbols classes)
  symbols-read [] [] kept origin fits keep = λ r choices keeps-so s pending.
      byte-read file kept line_feed [] no_class [] origin (λ now. Unit {0}) (λ known none. refl)
      (λ r choices keeps-so s pending. last-read file r choices (with_line_end origin) [] s)
      r choices keeps-so s (each-choice r.border r.read _ _ (λ now h. (tt, tt)) pending)
  symbols-read (Byte b ∷ symbols) (k ∷ classes) kept origin fits keep =
      byte-read file kept b (later symbols) k (more symbols classes) origin
      (λ now. AreAtTheirOrigins numbers now (origin_after numbers now origin (Byte b) k) symbols classes)
      (search (rules, true≢false, fits.0)) (λ r choices keeps-so s pending.
      symbols-read symbols classes (keeps b) (after_byte b origin) fits.1 keep r choices keeps-so s
      (each-choice r.border r.read _ _
      (λ now h. subst (λ (o : Option Origin). AreAtTheirOrigins numbers now o symbols classes)
      (search (rules, fits.0)) h) pending))
  symbols-read (Opening node piece ∷ symbols) (k ∷ classes) kept origin fits keep =
      let section = (numbers_at numbers node piece).section in
      one-symbol (Opening node piece) symbols k classes kept origin _
      (plain-read file kept 47 (drop 1 (opening_bytes section)) (later symbols) k (more symbols classes) origin _
      (digits-plain (decimal section) (codes ":*/") (decimal-digits section) refl)
      (keeps-last (codes "/*" ++ decimal section) (codes "*/") 58 refl)
      (symbols-read symbols classes true origin fits.1 keep))
  symbols-read (Closing node piece ∷ symbols) (k ∷ classes) kept origin fits keep =
      let section = (numbers_at numbers node piece).section in
      one-symbol (Closing node piece) symbols k classes kept origin _
      (plain-read file kept 47 (drop 1 (closing_bytes section)) (later symbols) k (more symbols classes) origin _
      (digits-plain (decimal section) (codes "*/") (decimal-digits section) refl)
      (closing-keeps [] section) (symbols-read symbols classes true origin fits.1 keep))
  symbols-read (MarkOf node piece mark ∷ symbols) (k ∷ classes) kept origin fits keep =
      rw keep.0 (one-symbol (MarkOf node piece mark) symbols k classes true origin _
      (mark-read (origin_of_mark numbers node piece mark) (low node piece mark) (later symbols) k
      (more symbols classes)
      origin (λ now after. AreAtTheirOrigins numbers now after symbols classes)
      (λ after. symbols-read symbols classes true after fits.1 keep.1)))
  symbols-read (AllMacros ∷ symbols) (k ∷ classes) kept origin fits keep =
      one-symbol AllMacros symbols k classes kept origin _
      (byte-read file kept line_feed (numbers.macros ++ later symbols) k
      (no_classes numbers.macros ++ more symbols classes)
      origin _ (λ known none. refl) (λ r choices keeps-so s pending.
      loose-read file numbers.macros (later symbols) (more symbols classes) _ macros_keep
      (symbols-read symbols classes true None fits.1 keep)
      r choices keeps-so (forget file r (with_line_end origin) _ _ s) pending))
  symbols-read symbols classes kept origin fits keep = absurd fits
