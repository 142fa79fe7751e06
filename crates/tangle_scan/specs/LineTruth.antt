-- By the counted origin of a piece, its source items are on their own lines, whichever groups of
-- lines a compiler leaves out.
use Rattle.std.specs.Prelude.{◌≡◌, ◌<◌, ℕ, ◌+◌, nat_le, length}
use Rattle.std.specs.Prelude.{Bool, true, false, ◌&&◌, ◌||◌, not, if◌then◌else◌}
use Rattle.std.specs.Prelude.{List, [], ◌∷◌, ◌++◌, flat_map, Option, Some, None}
use Rattle.std.specs.List.{AllZip}
use Rattle.tangle_lines.specs.declared.origin.Origin.{Origin}
use Rattle.tangle_lexer.specs.declared.tokens.Token.{Token}
use Rattle.tangle_lexer.specs.declared.tokens.Token.TheVariants as token
use Rattle.tangle_scan.specs.declared.items.Item.{Item}
use Rattle.tangle_scan.specs.declared.items.Item.TheVariants as item
use Rattle.tangle_lines.specs.Reading.{SourceLine, SourceRead, origin_at}
use Rattle.tangle_lexer.specs.Steps.{all_tokens}
use Rattle.tangle_scan.specs.Directives.{ForEachChoice, after_line_end, border_after}
use Rattle.tangle_scan.specs.Directives.{border_at_line_end}
use Rattle.tangle_scan.specs.Web.{WebRead, BlockKind, blocks}
use Rattle.tangle_scan.specs.Web.BlockKind.{OfMacro, OfPiece}
use Rattle.tangle_scan.specs.Rules.{texts_of, without_faults, with_spaces, has_join, map_runs}
use Rattle.tangle_scan.specs.Rules.{is_continued, at_line_front}
use Rattle.tangle_scan.specs.Rules.{next_line, same_origin, span_item}

-- A source item is a word, a sign, a quoted or verbatim text, or an ASCII constant.

-- A source item, its source line, and whether it is in a stretch, where the counted origin may be
-- that of another line. Locations are made from the tokens of the part, since the item of an ASCII
-- constant has no line, and a removed run has no item.
pub record Location : Type 0 where
  pub item : Item
  pub line : ℕ
  pub in_stretch : Bool

abbrev pub has_line_end : List Token → Bool
has_line_end [] = false
has_line_end (token.LineEnd line ∷ es) = true
has_line_end (token.InnerLineEnd line ∷ es) = true
has_line_end (e ∷ es) = has_line_end es

-- what rule 2 leaves of a run, with a join instead of a run with line ends that the rule removes
abbrev pub left_or_join : List Token → List Token
left_or_join run = if has_join run then (if has_line_end run then token.Join ∷ [] else []) else run

-- the tokens of a C part after rules 1 and 2, with a join where line ends were removed
abbrev pub tokens_and_joins : List (List ℕ) → List Token → List Token
tokens_and_joins texts tokens =
    map_runs left_or_join [] (with_spaces texts (without_faults tokens))

-- the next source line is the one that the count expects, or there is none
abbrev pub is_expected : List SourceLine → Origin → ℕ → Bool
is_expected lines counted line =
    nat_le (length lines) (line + 1) || same_origin (origin_at lines (line + 1)) (next_line counted)

-- the counted origin after the end of a line; `continued`: the next line continues this one
abbrev pub counted_after_line_end : List SourceLine → Bool → Origin → ℕ → Origin
counted_after_line_end lines continued counted line =
    if continued || is_expected lines counted line then next_line counted
    else origin_at lines (line + 1)

-- The locations of the source items of these tokens. `before` is the token before them on the line,
-- `counted` the counted origin, and `stretch` whether they are in a stretch. A stretch begins where
-- line ends were removed, also one inside a comment or a control text of a directive, and, if the
-- count does not expect the next source line, at a line end inside a quoted text and at the end of a
-- continued line. It ends at every other line end, and at a mark.
module _ (lines : List SourceLine) where
  abbrev pub locations : Option Token → Origin → Bool → List Token → List Location
  locations before counted stretch [] = []
  locations before counted stretch (token.Join ∷ es) = locations before counted true es
  locations before counted stretch (token.InnerLineEnd line ∷ es) =
      locations before counted true es
  locations before counted stretch (token.White ∷ es) = locations before counted stretch es
  locations before counted stretch (token.LineEnd line ∷ es) =
      let continued : Bool = is_continued (texts_of lines) before in
      locations (at_line_front (texts_of lines) before line)
      (counted_after_line_end lines continued counted line)
      (continued && not (is_expected lines counted line)) es
  locations before counted stretch (token.QuoteBreak line ∷ es) =
      locations (Some (token.QuoteBreak line)) (next_line counted)
      (not (is_expected lines counted line)) es
  locations before counted stretch (token.UseOf line occurrence ∷ es) =
      locations (Some (token.UseOf line occurrence)) (origin_at lines line) false es
  locations before counted stretch (token.AllMacros line ∷ es) =
      locations (Some (token.AllMacros line)) (origin_at lines line) false es
  locations before counted stretch (token.Span kind s ∷ es) =
      record { item = span_item kind s; line = s.line; in_stretch = stretch }
      ∷ locations (Some (token.Span kind s)) counted stretch es
  locations before counted stretch (token.AsciiConstant b line ∷ es) =
      record { item = item.AsciiConstant b; line = line; in_stretch = stretch }
      ∷ locations (Some (token.AsciiConstant b line)) counted stretch es
  locations before counted stretch (e ∷ es) = locations (Some e) counted stretch es

  -- the locations of the source items of a C part whose head ends on this line
  abbrev pub part_locations : ℕ → List Token → List Location
  part_locations line tokens =
      locations None (origin_at lines line) false (tokens_and_joins (texts_of lines) tokens)

  abbrev pub kind_locations : BlockKind → List Token → List (List Location)
  kind_locations (OfMacro line) tokens = []
  kind_locations (OfPiece occurrence line) tokens = part_locations line tokens ∷ []

  -- the locations of the source items of each piece of the source, in the order of the pieces
  abbrev pub piece_locations : List (List Location)
  piece_locations = flat_map (λ b. kind_locations b.kind b.tokens) (blocks 0 (all_tokens lines))

-- A compiler counts an origin: each line end adds one line to it, and a mark sets it, but not in a
-- region that the compiler leaves out.

abbrev pub with_line_end : Option Origin → Option Origin
with_line_end None = None
with_line_end (Some p) = Some (next_line p)

-- after a mark, which is two lines of the output
abbrev pub origin_after_mark : Bool → Origin → Option Origin → Option Origin
origin_after_mark read p origin =
    if read then Some p else with_line_end (with_line_end origin)

-- A source item has a location: it is on a line of the source, and if it is read and in no stretch,
-- the counted origin at it is that of the line.
pub record IsOwn (lines : List SourceLine) (read : Bool) (counted : Option Origin) (x : Item)
    (s : Location) : Type 0 where
  pub item : x ≡ s.item
  pub line : s.line < length lines
  pub origin : read ≡ true → s.in_stretch ≡ false → counted ≡ Some (origin_at lines s.line)

-- The source items have these locations, whichever regions a compiler reads. `read`: it reads the
-- region before these items; `origin`: the counted origin there; `line`: the items before them on
-- their line of C. After a use and after all macros nothing is known of the region and of the
-- origin.
module _ (lines : List SourceLine) where
  abbrev pub AreAtTheirLines : Bool → Option Origin → List Item → List Item → List Location → Type 0
  AreAtTheirLines read origin line [] ss = ss ≡ []
  AreAtTheirLines read origin line (item.LineEnd ∷ items) ss =
      ForEachChoice (border_at_line_end (texts_of lines) line) read (λ now.
      AreAtTheirLines now (with_line_end origin) (after_line_end (texts_of lines) line) items ss)
  AreAtTheirLines read origin line (item.LineMark p ∷ items) ss =
      ForEachChoice (border_after (texts_of lines) line) read (λ now.
      AreAtTheirLines now (origin_after_mark now p origin) [] items ss)
  AreAtTheirLines read origin line (item.UseOf occurrence ∷ items) ss =
      (now : Bool) (counted : Option Origin) → AreAtTheirLines now counted [] items ss
  AreAtTheirLines read origin line (item.AllMacros ∷ items) ss =
      (now : Bool) (counted : Option Origin) → AreAtTheirLines now counted [] items ss
  AreAtTheirLines read origin line (item.QuoteBreak ∷ items) ss =
      AreAtTheirLines read (with_line_end origin) (line ++ item.QuoteBreak ∷ []) items ss
  AreAtTheirLines read origin line (item.Blank ∷ items) ss =
      AreAtTheirLines read origin (line ++ item.Blank ∷ []) items ss
  AreAtTheirLines read origin line (x ∷ items) [] = ⊥
  AreAtTheirLines read origin line (x ∷ items) (s ∷ ss) =
      IsOwn lines read origin x s × AreAtTheirLines read origin (line ++ x ∷ []) items ss

-- The source items of a piece whose opening mark has the origin `mark` are at these locations,
-- whether or not the compiler reads the region that the piece is in.
abbrev pub IsAtItsLine : List SourceLine → Origin → List Item → List Location → Type 0
IsAtItsLine lines mark items locations =
    (read : Bool) (origin : Option Origin) → (read ≡ true → origin ≡ Some mark)
    → AreAtTheirLines lines read origin [] items locations

-- the source items of each piece are at their own lines
abbrev pub PiecesAreAtTheirLines : SourceRead → WebRead → Type 0
PiecesAreAtTheirLines source web =
    AllZip (λ p locations. IsAtItsLine source.lines p.origin p.items locations)
    web.pieces (piece_locations source.lines)
