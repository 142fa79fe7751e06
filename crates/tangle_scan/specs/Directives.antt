-- Lines of C, by their items: where they end, and the directives that begin, turn or end a group of
-- lines, which a compiler reads or leaves out. `texts` are the bytes of the source lines.
use Rattle.std.specs.Prelude.{◌≡◌, ℕ, Bool, true, false, ◌==◌, ◌||◌, List, [], ◌∷◌, ◌++◌, codes}
use Rattle.std.specs.Prelude.{if◌then◌else◌}
use Rattle.std.specs.List.{list_all}
use Rattle.std.specs.Str.{bytes_eq}
use Rattle.tangle_text.specs.Bytes.{number_sign, backslash}
use Rattle.tangle_text.specs.Text.{span_text}
use Rattle.tangle_lexer.specs.SpanBytes.{first_byte, last_byte}
use Rattle.tangle_scan.specs.declared.items.Item.{Item}
use Rattle.tangle_scan.specs.declared.items.Item.TheVariants as item

-- whether an item is a sign or a verbatim text that ends in this byte
abbrev pub item_ends_in : ℕ → List (List ℕ) → Item → Bool
item_ends_in b texts (item.Sign s) = first_byte texts s == b
item_ends_in b texts (item.Verbatim s) = last_byte texts s == b
item_ends_in b texts _ = false

abbrev pub is_blank : Item → Bool
is_blank item.Blank = true
is_blank _ = false

-- a word that, directly after the sign # of a directive, turns or ends a group
abbrev pub is_turn_word : List ℕ → Bool
is_turn_word word =
    bytes_eq word (codes "else") || bytes_eq word (codes "elif") || bytes_eq word (codes "endif")
    || bytes_eq word (codes "elifdef") || bytes_eq word (codes "elifndef")

-- what is between two items of an output: no border of regions, or the border after a directive that
-- begins a group, or after one that turns or ends one
pub data Border : Type 0 where
  SameRegion : Border
  GroupBegins : Border
  GroupTurns : Border

-- `P now` holds for each choice of whether the region after a border is read, if `before` says
-- whether the region before it is. A group that begins in a region that is left out is left out.
abbrev pub ForEachChoice : Border → Bool → (Bool → Type 0) → Type 0
ForEachChoice SameRegion before P = P before
ForEachChoice GroupBegins before P = (now : Bool) → (now ≡ true → before ≡ true) → P now
ForEachChoice GroupTurns before P = (now : Bool) → P now

module _ (texts : List (List ℕ)) where
  -- The line is continued after a line end that is next: its last item, white space aside, ends in a
  -- backslash.
  abbrev pub is_continued_line : List Item → Bool
  is_continued_line [] = false
  is_continued_line (x ∷ items) =
      if list_all is_blank items then item_ends_in backslash texts x else is_continued_line items

  -- the items of the line of C after a line end that is next: none, unless the line is continued
  abbrev pub after_line_end : List Item → List Item
  after_line_end line = if is_continued_line line then line ++ item.LineEnd ∷ [] else []

  -- the word that these items begin with, if they begin with one; white space and the ends of
  -- continued lines may be before it
  abbrev pub first_word : List Item → List ℕ
  first_word (item.Blank ∷ items) = first_word items
  first_word (item.LineEnd ∷ items) = first_word items
  first_word (item.Word s ∷ items) = span_text texts s
  first_word _ = []

  -- the word directly after the sign # with which a line of C begins, if it is a directive with one
  abbrev pub directive_word : List Item → List ℕ
  directive_word (item.Blank ∷ items) = directive_word items
  directive_word (item.LineEnd ∷ items) = directive_word items
  directive_word (item.Sign s ∷ items) =
      if first_byte texts s == number_sign then first_word items else []
  directive_word _ = []

  -- The line turns or ends a group: it is a turn.
  abbrev pub is_turn : List Item → Bool
  is_turn line = is_turn_word (directive_word line)

  -- The line begins a group.
  abbrev pub begins_group : List Item → Bool
  begins_group line =
      let word : List ℕ = directive_word line in
      bytes_eq word (codes "if") || bytes_eq word (codes "ifdef") || bytes_eq word (codes "ifndef")

  -- The directives that begin, turn or end a group cut an output into regions. A compiler reads a
  -- region, or it leaves it out. This is the border after a line of C that ends.
  abbrev pub border_after : List Item → Border
  border_after line =
      if is_turn line then GroupTurns else if begins_group line then GroupBegins else SameRegion

  -- the border at a line end, which ends the line unless the line is continued
  abbrev pub border_at_line_end : List Item → Border
  border_at_line_end line = if is_continued_line line then SameRegion else border_after line
