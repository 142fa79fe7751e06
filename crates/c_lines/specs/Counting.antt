-- At which file and line a C compiler counts each token that it reads, whichever groups of lines it
-- leaves out (C23, 6.10.2 and 6.10.5). A line's number is one more than the number of line feeds
-- before it, or what the last `#line` says that was read.
use Rattle.std.specs.Prelude.{ℕ, ◌+◌, ◌-◌, Bool, true, false, ◌==◌, ◌&&◌, ◌||◌, Option, None, Some}
use Rattle.std.specs.Prelude.{if◌then◌else◌, List, [], ◌∷◌, ◌++◌, map, filter, drop, length, codes}
use Rattle.std.specs.Prelude.{slice_index_or}
use Rattle.std.specs.List.{list_any, list_all}
use Rattle.std.specs.Str.{bytes_eq}
use Rattle.std.specs.Str.Parse.{digits_value}
use Rattle.c_tokens.specs.Bytes.{line_feed, backslash, is_digit}
use Rattle.c_tokens.specs.Grammar.{is_token, is_string}
use Rattle.c_tokens.specs.Reading.{elements}

-- a place in a text: the number of bytes before it, and its row, the number of line feeds before it
pub record Place : Type 0 where
  pub at : ℕ
  pub row : ℕ

abbrev pub start_of_text : Place
start_of_text = record { at = 0; row = 0 }

-- the place after a byte that is at this place
abbrev pub next_place : Place → ℕ → Place
next_place place b =
    record { at = place.at + 1; row = if b == line_feed then place.row + 1 else place.row }

-- the place after a text that begins at this place
abbrev pub place_after : Place → List ℕ → Place
place_after place [] = place
place_after place (b ∷ bs) = place_after (next_place place b) bs

-- the place of each byte that `spliced` leaves of a text that begins at this place
abbrev pub places : Place → List ℕ → List Place
places place [] = []
places place (b ∷ []) = place ∷ []
places place (b ∷ c ∷ bs) =
    if b == backslash && c == line_feed then places (next_place (next_place place b) c) bs
    else place ∷ places (next_place place b) (c ∷ bs)

-- an element, and the place of its first byte
pub record PlacedElement : Type 0 where
  pub text : List ℕ
  pub place : Place

-- elements, whose bytes have these places
abbrev pub with_places : List Place → List (List ℕ) → List PlacedElement
with_places places [] = []
with_places places (e ∷ es) =
    record { text = e; place = slice_index_or places 0 start_of_text }
    ∷ with_places (drop (length e) places) es

-- the elements of a text that begins at this place
abbrev pub elements_at : Place → List ℕ → List PlacedElement
elements_at place text = with_places (places place text) (elements text)

-- the tokens of a text that begins at this place
abbrev pub tokens_at : Place → List ℕ → List PlacedElement
tokens_at place text = filter (λ e. is_token e.text) (elements_at place text)

-- A line of C, by its tokens. It ends at a line feed that is in no comment, and `end` is the place
-- of this line feed: the last line has none.
pub record LineOfTokens : Type 0 where
  pub tokens : List PlacedElement
  pub end : Option Place

-- the lines of these elements; `front`: the tokens of the first line that are before them
abbrev pub lines : List PlacedElement → List PlacedElement → List LineOfTokens
lines front [] = record { tokens = front; end = None } ∷ []
lines front (e ∷ es) =
    if bytes_eq e.text (line_feed ∷ [])
    then record { tokens = front; end = Some e.place } ∷ lines [] es
    else lines (if is_token e.text then front ++ e ∷ [] else front) es

-- the lines of a text that begins at this place
abbrev pub lines_from : Place → List ℕ → List LineOfTokens
lines_from place text = lines [] (elements_at place text)

-- the tokens of a directive: the first one is #, or its digraph
abbrev pub begins_directive : List PlacedElement → Bool
begins_directive [] = false
begins_directive (e ∷ es) = bytes_eq e.text (codes "#") || bytes_eq e.text (codes "%:")

-- the tokens of a directive after that one; none of another line
abbrev pub directive : List PlacedElement → List (List ℕ)
directive tokens = if begins_directive tokens then map (λ e. e.text) (drop 1 tokens) else []

-- A directive that begins, turns or ends a group.

abbrev pub begins_group : List (List ℕ) → Bool
begins_group [] = false
begins_group (word ∷ words) =
    list_any (bytes_eq word) (codes "if" ∷ codes "ifdef" ∷ codes "ifndef" ∷ [])

abbrev pub turns_group : List (List ℕ) → Bool
turns_group [] = false
turns_group (word ∷ words) =
    list_any (bytes_eq word)
    (codes "elif" ∷ codes "elifdef" ∷ codes "elifndef" ∷ codes "else" ∷ codes "endif" ∷ [])

-- the file and the line at which a compiler counts
pub record PresumedLine : Type 0 where
  pub file : List ℕ
  pub line : ℕ

-- From this row on lines are counted, and the row is counted as this line.
pub record LineCount : Type 0 where
  pub row : ℕ
  pub origin : PresumedLine

abbrev pub counted : LineCount → ℕ → PresumedLine
counted count row =
    record { file = count.origin.file; line = count.origin.line + (row - count.row) }

-- the name in a string literal without its first quote: a backslash stands for the byte after it
abbrev pub unescaped : List ℕ → List ℕ
unescaped (b ∷ c ∷ bs) = if b == backslash then c ∷ unescaped bs else b ∷ unescaped (c ∷ bs)
unescaped _ = []

abbrev pub counts_from : ℕ → List ℕ → List ℕ → LineCount
counts_from row file digits =
    record { row = row; origin = record { file = file; line = digits_value 10 digits } }

-- The count after a directive of these tokens, whose line ends there: `#line` sets it for the row
-- after its line, with digits, and with a name in quotes or with none.
abbrev pub count_after : LineCount → Option Place → List (List ℕ) → LineCount
count_after count (Some end) (word ∷ digits ∷ []) =
    if bytes_eq word (codes "line") && list_all is_digit digits
    then counts_from (end.row + 1) count.origin.file digits else count
count_after count (Some end) (word ∷ digits ∷ name ∷ []) =
    if bytes_eq word (codes "line") && list_all is_digit digits && is_string name
    then counts_from (end.row + 1) (unescaped (drop 1 name)) digits else count
count_after count end words = count

-- a token that is read: `at` is the number of bytes before it in the text, and `origin` the line at
-- which it is counted
pub record TokenRead : Type 0 where
  pub token : List ℕ
  pub at : ℕ
  pub origin : PresumedLine
  pub in_directive : Bool

abbrev pub read_of : LineCount → List PlacedElement → List TokenRead
read_of count line =
    map (λ e. record {
      token = e.text;
      at = e.place.at;
      origin = counted count e.place.row;
      in_directive = begins_directive line;
    }) line

-- After such a directive is a region, of which a compiler reads all lines or none. A group that
-- begins in a region that is left out is left out.
abbrev pub region_after : List (List ℕ) → Bool → Bool → Bool
region_after words choice read =
    if begins_group words then read && choice else if turns_group words then choice else read

-- The tokens that are read of these lines. `read` says whether the compiler reads the region in
-- which they begin, and `choices` whether it is to read each one after that; without a choice it is.
abbrev pub reads : List Bool → Bool → LineCount → List LineOfTokens → List TokenRead
reads choices read count [] = []
reads choices read count (line ∷ lines) =
    let words : List (List ℕ) = directive line.tokens in
    (if read then read_of count line.tokens else [])
    ++ reads (if begins_group words || turns_group words then drop 1 choices else choices)
    (region_after words (slice_index_or choices 0 true) read)
    (if read then count_after count line.end words else count) lines

-- the tokens that a compiler reads of a file of this name, each with the line at which it counts it
abbrev pub c_reads : List Bool → List ℕ → List ℕ → List TokenRead
c_reads choices file text =
    reads choices true (record { row = 0; origin = record { file = file; line = 1 } })
    (lines_from start_of_text text)
