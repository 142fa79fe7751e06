-- Regions: parts of the text that are read up to the first position where they end.
use Rattle.std.specs.Prelude.{◌≡◌, ℕ, zero, suc, Bool, true, false, ◌==◌, ◌&&◌, ◌||◌, not, List, []}
use Rattle.std.specs.Prelude.{◌∷◌, length, flat_map, drop, if◌then◌else◌, Option, None, Some}
use Rattle.tangle_text.specs.declared.regions.Region.{Region}
use Rattle.tangle_text.specs.declared.regions.Region.TheVariants as region
use Rattle.tangle_text.specs.declared.regions.Unit.{Unit as Unit-of}
use Rattle.tangle_text.specs.declared.regions.Unit.TheVariants as unit
use Rattle.tangle_lines.specs.Bytes.{at_sign, double_quote}
use Rattle.tangle_text.specs.Bytes.{backslash, apostrophe, asterisk, slash, greater_sign, holds}
use Rattle.tangle_text.specs.Bytes.{is_line_end, holds_white, holds_word_byte, are_bytes}
use Rattle.tangle_text.specs.Bytes.{is_section_start, is_name_start, is_end_code}
use Rattle.tangle_text.specs.Text.{Cell, byte_at}

-- the region ends here, or goes on by two cells, or by one
abbrev pub unit_by : Bool → Bool → Unit-of
unit_by ends is_two = if ends then unit.Stop else if is_two then unit.Two else unit.One

-- a quoted text ends at its closing byte and at a line end; `@@` belongs together, and so do a
-- backslash and the next cell, unless that is `@`
abbrev pub quoted_unit : ℕ → Option ℕ → Option ℕ → Unit-of
quoted_unit close b next =
    unit_by (holds close b || is_line_end b)
    (are_bytes at_sign at_sign b next || holds backslash b && not (holds at_sign next))

-- an apostrophe before a word byte, which a number with a word byte before it goes on over
abbrev pub is_separator : Option ℕ → Option ℕ → Bool
is_separator b next = holds apostrophe b && holds_word_byte next

-- The unit of a region at these two cells: the end of the region, two cells that belong together,
-- or one.
abbrev pub unit_of : Region → Option ℕ → Option ℕ → Unit-of
-- a comment ends at `*/` and at a section start; other control codes in it are taken as two bytes
unit_of region.BlockComment b next =
    unit_by (are_bytes asterisk slash b next || is_section_start b next) (holds at_sign b)
-- a comment up to the line end ends at a section start too
unit_of region.LineComment b next =
    unit_by (is_line_end b || is_section_start b next) (holds at_sign b)
-- a control text ends at any control code but `@@`
unit_of region.ControlText b next =
    unit_by (holds at_sign b && not (holds at_sign next)) (holds at_sign b)
-- a verbatim text ends at `@>` and at a line end; `@@` belongs together
unit_of region.Verbatim b next =
    unit_by (is_line_end b || is_end_code b next) (are_bytes at_sign at_sign b next)
-- a name ends at `@>`, at a section start, and where another name starts; other control codes
-- belong together
unit_of region.Name b next =
    unit_by (is_end_code b next || is_section_start b next || is_name_start b next)
    (holds at_sign b)
unit_of region.DoubleQuote b next = quoted_unit double_quote b next
unit_of region.Apostrophe b next = quoted_unit apostrophe b next
-- a file name after `#include <` ends at `>` and at a line end; a backslash in it has no meaning
unit_of region.HeaderName b next =
    unit_by (holds greater_sign b || is_line_end b) (are_bytes at_sign at_sign b next)
-- a word ends where no word byte is, and white space where no white space is
unit_of region.Word b next = unit_by (not (holds_word_byte b)) false
unit_of region.White b next = unit_by (not (holds_white b)) false
-- a number goes on over an apostrophe between two word bytes, too
unit_of region.Number b next =
    unit_by (not (holds_word_byte b || is_separator b next)) (is_separator b next)
-- text without an `@`, which may have line ends in it
unit_of region.Prose b next = unit_by (holds at_sign b) false
-- a bad constant goes on up to an apostrophe or the line end
unit_of region.BadConstant b next = unit_by (holds apostrophe b || is_line_end b) false

-- the unit of a region at the front of a text
abbrev pub unit_at : Region → List Cell → Unit-of
unit_at r text = unit_of r (byte_at 0 text) (byte_at 1 text)

-- the items, or nothing where the region ends
abbrev pub unless_stop : {A : Type 0} → Unit-of → List A → List A
unless_stop unit.Stop items = []
unless_stop _ items = items

-- the number of cells that a unit has after its first
abbrev pub more_by : Unit-of → ℕ
more_by unit.Two = 1
more_by _ = 0

-- a unit of the first cell, or of the first two, and the units after it
abbrev pub units_from : Unit-of → Cell → Cell → List (List Cell) → List (List Cell)
    → List (List Cell)
units_from unit.Stop c d after_one after_two = []
units_from unit.One c d after_one after_two = (c ∷ []) ∷ after_one
units_from unit.Two c d after_one after_two = (c ∷ d ∷ []) ∷ after_two

-- the units of a region, one after another: each is a cell, or two that belong together
abbrev pub units : Region → List Cell → List (List Cell)
units r [] = []
units r (c ∷ []) = unless_stop (unit_at r (c ∷ [])) ((c ∷ []) ∷ [])
units r (c ∷ d ∷ cs) = units_from (unit_at r (c ∷ d ∷ cs)) c d (units r (d ∷ cs)) (units r cs)

-- the cells of a region
abbrev pub cells_in : Region → List Cell → List Cell
cells_in r text = flat_map (λ u. u) (units r text)

-- The number of cells before the first position where the region ends, or of all cells, if it does
-- not end.
abbrev pub count_before : Region → List Cell → ℕ
count_before r text = length (cells_in r text)

-- the text from the first position on where the region ends
unfoldable pub region_end : Region → List Cell → List Cell
region_end r text = drop (count_before r text) text

-- Most bytes have no meaning in comments, control texts, quoted and verbatim texts: they are
-- ordinary there.

abbrev pub is_ordinary : ℕ → Bool
is_ordinary b =
    not (b == at_sign || b == asterisk || b == backslash
    || b == double_quote || b == apostrophe || b == greater_sign)

abbrev pub holds_ordinary : Option ℕ → Bool
holds_ordinary None = false
holds_ordinary (Some b) = is_ordinary b

-- this number of cells at the front have ordinary bytes
abbrev pub AreOrdinary : ℕ → List Cell → Type 0
AreOrdinary zero text = Unit {0}
AreOrdinary (suc n) [] = ⊥
AreOrdinary (suc n) (c ∷ cs) = (holds_ordinary c.byte ≡ true) × AreOrdinary n cs

-- the regions in which ordinary bytes have no meaning
abbrev pub skips_ordinary : Region → Bool
skips_ordinary region.BlockComment = true
skips_ordinary region.LineComment = true
skips_ordinary region.ControlText = true
skips_ordinary region.Verbatim = true
skips_ordinary region.DoubleQuote = true
skips_ordinary region.Apostrophe = true
skips_ordinary region.HeaderName = true
skips_ordinary _ = false
