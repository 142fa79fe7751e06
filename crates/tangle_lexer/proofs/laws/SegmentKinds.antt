-- The segments of a text are side by side and fill it, and the cells of each are such as its kind has.
use Rattle.tangle_lexer.proofs.lemmas.OccurrencesCounted.{all-append}
use Rattle.std.proofs.Common.{rules}
use Rattle.std.proofs.lemmas.Bool.Decides.{nat_tests}
use Rattle.std.proofs.Common.{◌≡◌, ◌<◌, ◌≤◌, ℕ, zero, suc, ◌+◌, Bool, true, false, not, ◌&&◌, List, [], ◌∷◌, ◌++◌}
use Rattle.std.proofs.Common.{take, drop, flat_map, inl, inr, refl, ap, sym, ◌∙◌, arith, append-nil}
use Rattle.std.proofs.Common.{if◌then◌else◌, subst}
use Rattle.std.proofs.lemmas.Grind.{flat_map-append}
use Rattle.std.proofs.lemmas.List.{drop-drop, length-take}
use Rattle.std.specs.List.{AllByRecursion}
use Rattle.tangle_lines.specs.Bytes.{at_sign}
use Rattle.tangle_lexer.specs.declared.modes.LexerState.{LexerState}
use Rattle.tangle_lexer.specs.declared.lexeme_kinds.ControlCode.{ControlCode}
use Rattle.tangle_lexer.specs.declared.lexeme_kinds.ControlCode.TheVariants as code
use Rattle.tangle_text.specs.declared.regions.Region.TheVariants as region
use Rattle.tangle_text.specs.Bytes.{asterisk, slash}
use Rattle.tangle_text.specs.Bytes.{holds, are_bytes}
use Rattle.tangle_text.specs.Text.{Cell, byte_at}
use Rattle.tangle_text.specs.Regions.{count_before}
use Rattle.tangle_lexer.specs.Comments.{has_end_code, two_if, ends_comment, block_comment, line_comment, control_text}
use Rattle.tangle_lexer.specs.Constants.{ascii_constant}
use Rattle.tangle_lexer.specs.Names.{name_more}
use Rattle.tangle_lexer.specs.Segments.{Segment, segment, ShowsKind, OpensWith, text_segments, verbatim_segments}
use Rattle.tangle_lexer.specs.Segments.{HasNoSection}
use Rattle.tangle_lexer.specs.Segments.{IsControlText, IsSectionName, IsAsciiConstant}
use Rattle.tangle_lexer.specs.Segments.SegmentKind.{Kept, WhiteSpace, Comment, ControlBytes}
use Rattle.tangle_text.proofs.AheadLemmas.{byte_at-drop}
use Rattle.tangle_lexer.proofs.laws.Points.{HoldsBytes}
use Rattle.tangle_lexer.proofs.laws.RegionOrder.{are_bytes-hold, more-bytes, region-bytes}
use Rattle.tangle_lexer.proofs.laws.RegionUnits.{units-by}
use Rattle.tangle_lexer.proofs.laws.KeptText.{text_points}
use Rattle.tangle_lexer.specs.Segments.{SegmentKind, kept_points, points_by}
use Rattle.tangle_lexer.proofs.laws.CodesInside.{taken, codes-region}
use Rattle.tangle_lexer.specs.Comments.{starts_section}
use Rattle.tangle_lexer.proofs.laws.ConstantCells.{ascii_constant-bytes, ascii_constant-quotes}

-- These segments are these cells, each is as its kind says, and they keep these points.
pub record AreSegments (ss : List Segment) (cells : List Cell) (points : List (ℕ × ℕ)) : Type 0 where
  pub filled : flat_map (λ s. s.cells) ss ≡ cells
  pub shown : AllByRecursion (λ s. ShowsKind s.kind s.cells) ss
  pub kept : points ≡ flat_map kept_points ss

pub segments-append : (ss us : List Segment) (xs ys : List Cell) (ps qs : List (ℕ × ℕ))
    → AreSegments ss xs ps → AreSegments us ys qs → AreSegments (ss ++ us) (xs ++ ys) (ps ++ qs)
segments-append ss us xs ys ps qs h k = search (rules, flat_map-append, all-append)

pub same-points : (ss : List Segment) (cells : List Cell) (ps qs : List (ℕ × ℕ))
    → AreSegments ss cells qs → ps ≡ qs → AreSegments ss cells ps
same-points ss cells ps qs h e = rw e h

pub one-segment : (kind : SegmentKind) (cells : List Cell) → ShowsKind kind cells
    → AreSegments (segment kind cells ∷ []) cells (points_by kind cells ++ [])
one-segment kind cells h = record { filled = append-nil cells; shown = (h, tt); kept = refl }

-- the first cells of a text are the same after the cells from the n-th on are dropped

byte-take : (k n : ℕ) (text : List Cell) → k < n → byte_at k (take n text) ≡ byte_at k text
byte-take k zero text h = absurd (omega arith)
byte-take k (suc n) [] h = refl
byte-take k (suc n) (c ∷ cs) h = grind (arith, λ (j : ℕ). byte-take j n cs)

opens-taken : (kind : ControlCode) (n : ℕ) (text : List Cell)
    → 1 < n → OpensWith kind text → OpensWith kind (take n text)
opens-taken kind n text h o = rw (byte-take 0 n text (omega (arith, h)), byte-take 1 n text h) o

-- cells that are bytes are such as a Kept segment has

pub bytes-shows : (n : ℕ) (text : List Cell) → HoldsBytes n text → ShowsKind Kept (take n text)
bytes-shows zero text h = tt
bytes-shows (suc n) [] h = tt
bytes-shows (suc n) (c ∷ cs) h = grind (arith, nat_tests, bytes-shows n cs h.1)

-- comments

-- no */ begins at the first `n` cells
abbrev IsOpen : ℕ → List Cell → Type 0
IsOpen n text = (k : ℕ) → k < n → ends_comment (drop k text) ≡ false

cell-open : (n : ℕ) (c : Cell) (cs : List Cell)
    → ends_comment (c ∷ cs) ≡ false → IsOpen n cs → IsOpen (suc n) (c ∷ cs)
cell-open n c cs here next x h = grind arith

-- no */ begins in a comment before its end
comment-open : (text : List Cell) → IsOpen (count_before region.BlockComment text) text
comment-open =
    units-by region.BlockComment IsOpen (λ text e k h. absurd (omega arith)) (λ k h. absurd (omega arith))
    (λ n c cs e. cell-open n c cs (grind arith))
    (λ n c d cs e next. cell-open (suc n) c (d ∷ cs) (grind arith) (cell-open n d cs (grind arith) next))
    (λ c e. cell-open 0 c [] (grind arith) (λ k h. absurd (omega arith)))

two_if-few : (b : Bool) → two_if b ≤ 2
two_if-few b = grind arith

-- */ is at distance `k` where the text from there on begins with */
cells-there : (k : ℕ) (text : List Cell)
    → are_bytes asterisk slash (byte_at k text) (byte_at (k + 1) text) ≡ ends_comment (drop k text)
cells-there k text =
    rw (byte_at-drop k text, byte_at-drop (k + 1) text, ← drop-drop 1 k text, byte_at-drop 1 (drop k text)) refl

pub block_comment-shows : (s : LexerState) (text : List Cell)
    → are_bytes slash asterisk (byte_at 0 text) (byte_at 1 text) ≡ true
    → ShowsKind Comment (take (1 + (block_comment s text).more) text)
block_comment-shows s text o =
    let inside : ℕ = count_before region.BlockComment (drop 2 text) in
    let closed : Bool = ends_comment (drop inside (drop 2 text)) in
    let n : ℕ = 1 + (1 + inside + two_if closed) in
    let few = two_if-few closed in
    let long = length-take n text in inl (
      rw (byte-take 0 n text (omega arith), byte-take 1 n text (omega arith)) o,
      search (rules, byte-take, cells-there, comment-open),
      codes-region region.BlockComment (λ cells. starts_section cells ≡ false) ends_comment (λ b next e. grind arith)
          (λ cells e. (grind arith, grind arith)) (λ b cells e. grind arith) text,
    )

pub line_comment-shows : (s : LexerState) (text : List Cell)
    → are_bytes slash slash (byte_at 0 text) (byte_at 1 text) ≡ true
    → ShowsKind Comment (take (1 + (line_comment s text).more) text)
line_comment-shows s text o =
    let inside : ℕ = count_before region.LineComment (drop 2 text) in
    let n : ℕ = 1 + (1 + inside) in
    let sum : 2 + inside ≡ n = omega arith in
    let all : 1 + (1 + inside + 0) ≡ n = omega arith in inr (
      rw (byte-take 0 n text (omega arith), byte-take 1 n text (omega arith)) o,
      bytes-shows n text
          (subst (λ k. HoldsBytes k text) sum (more-bytes 2 inside text (are_bytes-hold slash slash text o) (region-bytes region.LineComment refl (drop 2 text)))),
      subst (λ k. HasNoSection (drop 2 (take k text))) all
          (codes-region region.LineComment (λ cells. starts_section cells ≡ false) (λ cells. false)
          (λ b next e. grind arith) (λ cells e. (grind arith, grind arith)) (λ b cells e. grind arith) text),
    )

-- white space and texts

pub white-shows : (text : List Cell) → ShowsKind WhiteSpace (take (count_before region.White text) text)
white-shows = grind (arith, nat_tests, units-by region.White (λ n text. ShowsKind WhiteSpace (take n text)))

pub text-are : (after_at_sign : Bool) (cells : List Cell)
    → AreSegments (text_segments after_at_sign cells) cells (text_points after_at_sign cells)
text-are after_at_sign [] = record { filled = refl; shown = tt; kept = refl }
text-are after_at_sign (c ∷ cs) =
    let more = text-are (holds at_sign c.byte && not after_at_sign) cs in
    record { filled = ap (λ xs. c ∷ xs) more.filled; shown = grind (arith, nat_tests, more.shown); kept = refl }

pub verbatim-are : (text : List Cell) → holds at_sign (byte_at 0 text) ≡ true
    → let inside : ℕ = count_before region.Verbatim (drop 2 text) in
    AreSegments (verbatim_segments text)
    (take (1 + (1 + inside + two_if (has_end_code (drop inside (drop 2 text))))) text)
    (text_points false (take inside (drop 2 text)))
verbatim-are text sign =
    let inside : ℕ = count_before region.Verbatim (drop 2 text) in
    let after : List Cell = drop inside (drop 2 text) in
    let all = segments-append (segment ControlBytes (take 2 text) ∷ []) _ _ _ _ _
    (one-segment ControlBytes (take 2 text) (grind (arith, nat_tests, length-take)))
    (segments-append (text_segments false (take inside (drop 2 text))) _ _ _ _ _
    (text-are false (take inside (drop 2 text))) (end (has_end_code after) after refl)) in
    record {
      filled = all.filled ∙ sym (taken inside (two_if (has_end_code after)) text);
      shown = all.shown;
      kept = sym (append-nil (text_points false (take inside (drop 2 text)))) ∙ all.kept;
    }
  where
    end : (b : Bool) (cells : List Cell) → has_end_code cells ≡ b
        → AreSegments (if b then segment ControlBytes (take 2 cells) ∷ [] else []) (take (two_if b) cells) []
    end x cells e = search (rules, append-nil)

pub control_text-shows : (s : LexerState) (text : List Cell)
    → OpensWith code.ControlText text → IsControlText (take (1 + (control_text s text).more) text)
control_text-shows s text o = (
  opens-taken code.ControlText _ text (omega arith) o,
  codes-region region.ControlText _ has_end_code (λ b next e. grind arith)
      (λ cells e. (grind arith, inr (grind arith))) (grind arith) text,
)

pub name-shows : (s : LexerState) (text : List Cell)
    → OpensWith code.Name text → IsSectionName (take (1 + name_more text) text)
name-shows s text o = (
  opens-taken code.Name _ text (omega arith) o,
  codes-region region.Name _ has_end_code (λ b next e. grind arith) (λ cells e. (grind arith, inr (grind arith)))
      (grind arith) text,
)

pub constant-shows : (s : LexerState) (c : Cell) (cs : List Cell)
    → OpensWith code.AsciiConstant (c ∷ cs) → IsAsciiConstant (take (1 + (ascii_constant s (c ∷ cs)).more) (c ∷ cs))
constant-shows s c cs o =
    grind (arith, length-take, bytes-shows, ascii_constant-bytes s (c ∷ cs), byte-take, ascii_constant-quotes s (c ∷ cs))
