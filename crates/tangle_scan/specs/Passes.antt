-- What the rules for items give for the tokens that a pass has not read yet.
use Rattle.std.specs.Prelude.{◌≡◌, ◌≤◌, ℕ, ◌+◌, suc, max, Bool, true, false, ◌==◌, nat_le, ◌&&◌, ◌||◌}
use Rattle.std.specs.Prelude.{not}
use Rattle.std.specs.Prelude.{if◌then◌else◌}
use Rattle.std.specs.Prelude.{List, [], ◌∷◌, ◌++◌, length, map, flat_map, take, replicate}
use Rattle.std.specs.Prelude.{Option, Some, None, is_some, option_to_list, option_map}
use Rattle.std.specs.List.{list_all}
use Rattle.tangle_lines.specs.declared.origin.Origin.{Origin}
use Rattle.tangle_lexer.specs.declared.tokens.Token.{Token}
use Rattle.tangle_lexer.specs.declared.tokens.Token.TheVariants as token
use Rattle.tangle_lexer.specs.declared.tokens.SpanKind.TheVariants as span_kind
use Rattle.tangle_text.specs.declared.spans.Span.{Span}
use Rattle.tangle_text.specs.declared.runs.RunPart.{RunPart}
use Rattle.tangle_text.specs.declared.runs.RunPart.TheVariants as part
use Rattle.tangle_text.specs.Runs.{run_parts}
use Rattle.tangle_scan.specs.declared.items.Item.{Item}
use Rattle.tangle_scan.specs.declared.items.Item.TheVariants as item
use Rattle.tangle_scan.specs.declared.macro_items.Gap.{Gap}
use Rattle.tangle_scan.specs.declared.macro_items.MacroState.{MacroState}
use Rattle.tangle_scan.specs.declared.parts.CountedOrigin.{CountedOrigin}
use Rattle.tangle_scan.specs.declared.parts.PartState.{PartState}
use Rattle.tangle_scan.specs.declared.parts.Start.{Start}
use Rattle.tangle_scan.specs.declared.turns.Turn.{Turn}
use Rattle.tangle_scan.specs.declared.turns.Turn.TheVariants as turn
use Rattle.tangle_scan.specs.declared.parts.Last.{Last}
use Rattle.tangle_scan.specs.declared.parts.Last.TheVariants as last
use Rattle.tangle_text.specs.Bytes.{number_sign, backslash, slash, is_word_byte}
use Rattle.tangle_lines.specs.Reading.{SourceLine, origin_at}
use Rattle.tangle_scan.specs.Directives.{is_turn_word}
use Rattle.tangle_scan.specs.Rules.{clean_tokens, white_inner_end, with_spaces, with_name_space}
use Rattle.tangle_scan.specs.Rules.{may_follow_name, is_gap}
use Rattle.tangle_scan.specs.Rules.{would_merge, full_stop}
use Rattle.tangle_scan.specs.Rules.{has_join}
use Rattle.tangle_scan.specs.Rules.{without_joins, left_of_run, blanks, is_open, is_continued, at_line_front}
use Rattle.tangle_scan.specs.Rules.{texts_of, span_text, span_item, next_line}
use Rattle.tangle_lexer.specs.Runs.{is_run, part_token}
use Rattle.tangle_lexer.specs.SpanBytes.{first_byte, last_byte, ends_in, ends_in_backslash}
use Rattle.tangle_scan.specs.declared.texts.TextSize.{TextSize}
use Rattle.tangle_scan.specs.Texts.{TextRead, IsTextOf, part_item}
pub use Rattle.tangle_scan.specs.Web.{last_of, last_token}
use Rattle.tangle_scan.specs.LineTruth.{is_expected, counted_after_line_end}
use Rattle.tangle_scan.specs.Rules.{macro_blanks, unmarked_items, without_backslashes}
use Rattle.tangle_scan.specs.Rules.{has_blank_at_line_end, next_item, is_name_part}

-- rule 1 for the tokens after another one; `first`: that one is the first item of a macro

abbrev pub needs_space : List (List ℕ) → Bool → Token → Token → Bool
needs_space texts first before e = first && not (may_follow_name texts e) || would_merge texts before e

abbrev pub with_white_space : List (List ℕ) → Bool → Token → List Token → List Token
with_white_space texts first before [] = []
with_white_space texts first before (e ∷ es) =
    (if needs_space texts first before e then token.White ∷ [] else [])
    ++ e ∷ with_white_space texts false e es

-- a C part

abbrev pub origin_of : CountedOrigin → Origin
origin_of counted = record { file = counted.file; line = counted.line }

-- the item for a token, if that is the same item in C parts and in macros
abbrev pub item_of : Token → Option Item
item_of (token.Span kind s) = Some (span_item kind s)
item_of (token.QuoteBreak line) = Some item.QuoteBreak
item_of (token.AsciiConstant b line) = Some (item.AsciiConstant b)
item_of _ = None

-- what other crates call how much of a turn is on a line of C
abbrev pub TurnSoFar : Type 0
TurnSoFar = Turn

-- How much of a turn is on a line of C. These are the items that make one.

abbrev pub is_number_sign : List (List ℕ) → Item → Bool
is_number_sign texts (item.Sign s) = first_byte texts s == number_sign
is_number_sign texts _ = false

abbrev pub is_turn_item : List (List ℕ) → Item → Bool
is_turn_item texts (item.Word s) = is_turn_word (span_text texts s)
is_turn_item texts _ = false

abbrev pub turn_by : Turn → Bool → Bool → Turn
turn_by turn.NoItem is_sign is_word = if is_sign then turn.NumberSign else turn.Other
turn_by turn.NumberSign is_sign is_word = if is_word then turn.Whole else turn.Other
turn_by at is_sign is_word = at

-- after one more item that is no white space, or after none
abbrev pub turn_after_item : List (List ℕ) → Turn → Option Item → Turn
turn_after_item texts at None = at
turn_after_item texts at (Some x) = turn_by at (is_number_sign texts x) (is_turn_item texts x)

-- after a token that is no line end; after a use or @h a line of C begins
abbrev pub turn_after : List (List ℕ) → Turn → Token → Turn
turn_after texts at (token.UseOf line occurrence) = turn.NoItem
turn_after texts at (token.AllMacros line) = turn.NoItem
turn_after texts at e = turn_after_item texts at (item_of e)

-- after a run, which does not begin with the sign #

abbrev pub parts_begin_turn : List (List ℕ) → List RunPart → Bool
parts_begin_turn texts (part.Word s ∷ ps) = is_turn_word (span_text texts s)
parts_begin_turn texts _ = false

abbrev pub turn_after_run : List (List ℕ) → Turn → Span → Turn
turn_after_run texts turn.NoItem s = turn.Other
turn_after_run texts turn.NumberSign s =
    if parts_begin_turn texts (run_parts texts s) then turn.Whole else turn.Other
turn_after_run texts at s = at

-- after the end of a line, which has a mark unless the line is continued or is the last one
abbrev pub turn_after_line_end : List SourceLine → Bool → ℕ → Turn → Turn
turn_after_line_end lines continued line at =
    if continued || nat_le (length lines) (line + 1) then at else turn.NoItem

abbrev pub is_whole : Turn → Bool
is_whole turn.Whole = true
is_whole _ = false

-- no mark is at the end of a line that is not continued: the count expects the next source line, and
-- this line is no turn; or there is no next source line
abbrev pub is_unmarked : List SourceLine → Bool → Origin → ℕ → Bool
is_unmarked lines turn counted line =
    if turn then nat_le (length lines) (line + 1) else is_expected lines counted line

-- the item that rules 4 and 5 leave for the end of a line; `continued`: the next line continues
-- this one; `turn`: this line is a turn
abbrev pub line_item : List SourceLine → Bool → Bool → Origin → ℕ → Item
line_item lines continued turn counted line =
    if continued || is_unmarked lines turn counted line then item.LineEnd
    else item.LineMark (origin_at lines (line + 1))

-- the items that rules 4 and 5 give for a token other than white space and line ends
abbrev pub items_at : List SourceLine → Token → List Item
items_at lines (token.UseOf line occurrence) =
    item.UseOf occurrence ∷ item.LineMark (origin_at lines line) ∷ []
items_at lines (token.AllMacros line) = item.AllMacros ∷ item.LineMark (origin_at lines line) ∷ []
items_at lines e = option_to_list (item_of e)

-- the counted origin after such a token
abbrev pub counted_after_token : List SourceLine → Origin → Token → Origin
counted_after_token lines counted (token.UseOf line occurrence) = origin_at lines line
counted_after_token lines counted (token.AllMacros line) = origin_at lines line
counted_after_token lines counted (token.QuoteBreak line) = next_line counted
counted_after_token lines counted e = counted

-- whether a token is, or ends with, a sign or a verbatim text that ends in this byte, which is no word
-- byte and no space
abbrev pub run_ends_in : ℕ → List (List ℕ) → Token → Bool
run_ends_in b texts (token.Run s) = last_byte texts s == b
run_ends_in b texts e = ends_in b texts e

-- a byte of a run with which a number would be read as one
abbrev pub is_merging_byte : ℕ → Bool
is_merging_byte b = is_word_byte b || (b == full_stop || b == backslash)

-- rule 1 puts white space between two tokens, which may be runs
abbrev pub would_merge_in_run : List (List ℕ) → Token → Token → Bool
would_merge_in_run texts (token.AsciiConstant value line) (token.Run s) =
    is_merging_byte (first_byte texts s)
would_merge_in_run texts (token.Run s) (token.AsciiConstant value line) =
    is_merging_byte (last_byte texts s)
would_merge_in_run texts before e = would_merge texts before e

-- rule 4 and rule 5 in one pass: the items of tokens that rule 3 made, by the token before them on
-- the line, by how much of a turn is on the line, and by the counted origin
abbrev pub items_by_origin : List SourceLine → Option Token → Turn → Origin → List Token
    → List Item
items_by_origin lines before at counted [] = []
items_by_origin lines before at counted (token.LineEnd line ∷ es) =
    let continued : Bool = is_continued (texts_of lines) before in
    line_item lines continued (is_whole at) counted line
    ∷ items_by_origin lines (at_line_front (texts_of lines) before line)
    (turn_after_line_end lines continued line at)
    (counted_after_line_end lines continued counted line) es
items_by_origin lines before at counted (token.White ∷ es) =
    item.Blank ∷ items_by_origin lines before at counted es
items_by_origin lines before at counted (e ∷ es) =
    items_at lines e
    ++ items_by_origin lines (Some e) (turn_after (texts_of lines) at e)
    (counted_after_token lines counted e) es

-- rules 3 to 5 for the tokens after a token `before`; `white`: white space is directly before them
abbrev pub items_after : List SourceLine → Option Token → Turn → Origin → Bool → List Token
    → List Item
items_after lines before at counted white es =
    items_by_origin lines before at counted (blanks (texts_of lines) before white es)

-- the tokens that rule 1 makes of those after a token
abbrev pub spaced_after : List (List ℕ) → Token → List Token → List Token
spaced_after texts before es = with_white_space texts false before (clean_tokens es)

-- what is before a position, if white space and faults are left out

abbrev pub keeps_white : Last → Bool
keeps_white last.Continued = true
keeps_white last.Item = true
keeps_white _ = false

abbrev pub is_joined : Last → Bool
is_joined last.Joined = true
is_joined _ = false

-- nothing but white space was read since the last line end, or since the front of the part
abbrev pub is_after_line_end : Last → Bool
is_after_line_end last.Front = true
is_after_line_end last.Continued = true
is_after_line_end _ = false

abbrev pub last_after_line_end : Bool → Last
last_after_line_end continued = if continued then last.Continued else last.Front

abbrev pub is_item : Last → Bool
is_item last.Item = true
is_item _ = false

-- the last item is directly before the next token
abbrev pub is_touching : PartState → Bool
is_touching at = is_item at.last && not at.has_white

-- the next line continues a line that ends here
abbrev pub is_continued_at : List (List ℕ) → PartState → Bool
is_continued_at texts at = is_item at.last && ends_in_backslash texts at.item

-- a piece that ends here needs a blank at its end
abbrev pub is_open_after : List (List ℕ) → Last → Token → Bool
is_open_after texts last.Front e = false
is_open_after texts last.Continued e = true
is_open_after texts _ e = run_ends_in slash texts e

abbrev pub ends_open : List (List ℕ) → PartState → Bool
ends_open texts at = is_open_after texts at.last at.item

-- where the current gap of joins, white space and line ends begins: how much of a turn is on the
-- line, and the counted origin

abbrev pub turn_at_gap : PartState → Turn
turn_at_gap at = if is_after_line_end at.last then at.start.turn else at.turn

abbrev pub counted_at_gap : PartState → CountedOrigin
counted_at_gap at = if is_after_line_end at.last then at.start.counted else at.counted

-- the items before the current gap, then those of the gap and the tokens after it; `front`: the
-- token before the gap
abbrev pub from_gap : List SourceLine → List Item → PartState → Option Token → List Token
    → List Item
from_gap lines kept at front es =
    kept ++ items_after lines front (turn_at_gap at) (origin_of (counted_at_gap at)) false es

-- The items so far, those of them that are before the current gap, and the state are those of the
-- tokens so far, which end with the gap `gap`. `front` is the token before the gap, `before` the
-- last token on the current line, and `prev` the last token.
pub record IsPartRead (lines : List SourceLine) (items kept : List Item) (at : PartState)
    (gap : List Token) (front before : Option Token) (prev : Token) : Type 0 where
  pub joined : has_join gap ≡ is_joined at.last
  pub made : (es : List Token) → from_gap lines kept at front (left_of_run gap ++ es)
      ≡ items
      ++ items_after lines before at.turn (origin_of at.counted)
      (keeps_white at.last && at.has_white) es
  pub keeps : is_joined at.last ≡ false → is_some before ≡ keeps_white at.last
  pub continued : is_joined at.last ≡ false
      → is_continued (texts_of lines) before ≡ is_continued_at (texts_of lines) at
  pub front_open : is_open (texts_of lines) front ≡ run_ends_in slash (texts_of lines) at.item
  pub before_open : is_open (texts_of lines) before ≡ ends_open (texts_of lines) at
  pub merges : (e : Token) → is_run e ≡ false → would_merge (texts_of lines) prev e
      ≡ (is_touching at && would_merge_in_run (texts_of lines) at.item e)

-- The items `whole` of a C part are those of the tokens so far, then those of the tokens `es` that
-- were not read yet.
pub record IsPassed (lines : List SourceLine) (whole items kept : List Item) (at : PartState)
    (es : List Token) : Type 0 where
  pub gap : List Token
  pub front : Option Token
  pub before : Option Token
  pub prev : Token
  pub read : IsPartRead lines items kept at gap front before prev
  pub left : whole ≡ from_gap lines kept at front
      (without_joins gap (spaced_after (texts_of lines) prev es))

-- a blank goes before an item or a run
abbrev pub blank_before : List SourceLine → PartState → Token → Bool
blank_before lines at e =
    is_touching at && would_merge_in_run (texts_of lines) at.item e
    || keeps_white at.last && at.has_white

abbrev pub blank_if : Bool → List Item
blank_if blank = if blank then item.Blank ∷ [] else []

-- The text before the current gap. A join removes what is after it.

abbrev pub size_of : TextRead → TextSize
size_of text =
    record { tags = length text.tags; bytes = length text.bytes; marks = length text.marks }

abbrev pub cut_to : TextSize → TextRead → TextRead
cut_to size text = record text {
  tags = take size.tags text.tags;
  bytes = take size.bytes text.bytes;
  marks = take size.marks text.marks;
}

abbrev pub before_gap : TextRead → PartState → TextRead
before_gap text at = if is_after_line_end at.last then cut_to at.start.size text else text

abbrev pub start_of_gap : TextRead → PartState → Start
start_of_gap text at =
    if is_after_line_end at.last then at.start
    else record { size = size_of text; turn = at.turn; counted = at.counted }

-- a text has at least this size
pub record HasSize (size : TextSize) (text : TextRead) : Type 0 where
  pub tags : size.tags ≤ length text.tags
  pub bytes : size.bytes ≤ length text.bytes
  pub marks : size.marks ≤ length text.marks

-- The text so far is that of the items so far, which are those of the tokens so far; `es` were not
-- read yet, and the whole part has the items `whole`.
pub record IsMade (lines : List SourceLine) (whole : List Item) (text : TextRead) (at : PartState)
    (es : List Token) : Type 0 where
  pub items : List Item
  pub kept : List Item
  pub passed : IsPassed lines whole items kept at es
  pub all_text : IsTextOf (texts_of lines) items text
  pub kept_text : IsTextOf (texts_of lines) kept (before_gap text at)
  pub start : is_after_line_end at.last ≡ true → HasSize at.start.size text

-- the higher of the two counted lines of the state, for which a limit is proved
abbrev pub highest : PartState → ℕ
highest at = max at.counted.line at.start.counted.line

-- a macro

-- Tokens as the lexer read them, some of them runs, and the tokens that they stand for.

abbrev pub first_of : List RunPart → Token
first_of [] = token.White
first_of (p ∷ ps) = part_token p

abbrev pub first_token : List (List ℕ) → Token → Token
first_token texts (token.Run s) = first_of (run_parts texts s)
first_token texts e = e

abbrev pub are_words : List RunPart → Bool
are_words ps = list_all (λ p. is_name_part (part_token p)) ps

-- all tokens that this one stands for may be parts of a macro's name
abbrev pub are_name_parts : List (List ℕ) → Token → Bool
are_name_parts texts (token.Run s) = are_words (run_parts texts s)
are_name_parts texts e = is_name_part e

-- the items that are written in a macro for a token, which may be a run
abbrev pub written_items : List (List ℕ) → Token → List Item
written_items texts (token.Run s) = map part_item (run_parts texts s)
written_items texts token.White = item.Blank ∷ []
written_items texts (token.LineEnd line) = item.LineEnd ∷ []
written_items texts e = option_to_list (item_of e)

abbrev pub spaced_items : List (List ℕ) → List Token → List Item
spaced_items texts tokens = flat_map (written_items texts) tokens

-- a blank or none, and this number of line ends
abbrev pub gap_tokens : Bool → ℕ → List Token
gap_tokens blank ends =
    (if blank then token.White ∷ [] else []) ++ replicate ends (token.LineEnd 0)

-- the joins, white space and line ends before the first item of these tokens
abbrev pub gap_before : List Token → List Token
gap_before [] = []
gap_before (token.Fault kind line ∷ es) = gap_before es
gap_before (e ∷ es) = if is_gap e then white_inner_end e ∷ gap_before es else []

-- these tokens from their first item on
abbrev pub from_item : List Token → List Token
from_item [] = []
from_item (token.Fault kind line ∷ es) = from_item es
from_item (e ∷ es) = if is_gap e then from_item es else e ∷ es

abbrev pub has_white : List Token → Bool
has_white [] = false
has_white (token.White ∷ es) = true
has_white (e ∷ es) = has_white es

-- the number of line ends among these tokens
abbrev pub line_ends : List Token → ℕ
line_ends [] = 0
line_ends (token.LineEnd line ∷ es) = suc (line_ends es)
line_ends (e ∷ es) = line_ends es

abbrev pub gap_of : List Token → Gap
gap_of run = record { has_join = has_join run; has_white = has_white run; line_ends = line_ends run }

-- rule 1 puts white space between a token and the first of these tokens
abbrev pub is_spaced : List (List ℕ) → Bool → Token → List Token → Bool
is_spaced texts first before [] = false
is_spaced texts first before (token.Fault kind line ∷ es) = is_spaced texts first before es
is_spaced texts first before (e ∷ es) = needs_space texts first before e

-- the same of an item or a run, and of one that is directly after it, if one is
abbrev pub is_spaced_in_run : List (List ℕ) → Bool → Token → List Token → Bool
is_spaced_in_run texts first before [] = false
is_spaced_in_run texts first before (e ∷ es) =
    first && not (may_follow_name texts (first_token texts e))
    || would_merge_in_run texts before e

-- what rules 1 and 2 leave of the gap between an item and the next one
abbrev pub left_gap : List (List ℕ) → Bool → Token → List Token → List Token
left_gap texts first before es = left_of_run
    ((if is_spaced texts first before es then token.White ∷ [] else []) ++ gap_before es)

-- what rule 1 makes of the tokens of a macro from some token on, and what rule 2 makes of those;
-- `first`: no item is before them

abbrev pub spaced_from : List (List ℕ) → Bool → List Token → List Token
spaced_from texts first es =
    let spaced : List Token = with_spaces texts (clean_tokens es) in
    if first then with_name_space texts spaced else spaced

abbrev pub joined_from : List (List ℕ) → Bool → List Token → List Token
joined_from texts first es = without_joins [] (spaced_from texts first es)

-- a token other than white space, a line end of any kind, a join and a fault
abbrev pub is_solid : Token → Bool
is_solid (token.Fault kind line) = false
is_solid e = not (is_gap e)

-- a token is a backslash before a line end, of which `gap` is left
abbrev pub is_dropped : List (List ℕ) → Token → Gap → Bool
is_dropped texts (token.Span span_kind.Sign s) gap =
    first_byte texts s == backslash && not (gap.line_ends == 0)
is_dropped texts e gap = false

-- a blank goes before an item, after the last one and what is left of the gap between the two
abbrev pub has_blank : List (List ℕ) → Bool → Option Token → Gap → Token → Bool
has_blank texts in_name before gap e =
    if gap.line_ends == 0 then is_some before && gap.has_white
    else has_blank_at_line_end texts in_name before (Some e)

-- nothing is between the macro's name and the position
abbrev pub is_at_name : MacroState → Bool
is_at_name at = at.in_name && (at.gap.line_ends == 0 && not at.gap.has_white)

-- the state in which the last token of a run is the last item
abbrev pub plain_state : List (List ℕ) → MacroState → MacroState
plain_state texts at = record at { item = option_map (last_token texts) at.item }

-- the items of what is left of a gap, and of the tokens after it
abbrev pub items_from : List (List ℕ) → Bool → Option Token → Gap → List Token → List Item
items_from texts in_name before gap es =
    if gap.line_ends == 0 then unmarked_items (macro_blanks texts in_name before gap.has_white es)
    else blank_if (has_blank_at_line_end texts in_name before (next_item es))
    ++ (replicate gap.line_ends item.LineEnd ++ unmarked_items (macro_blanks texts false None false es))

-- the items of a macro for tokens that were not read yet
unfoldable pub items_ahead : List (List ℕ) → MacroState → List Token → List Item
items_ahead texts at es = items_from texts at.in_name at.item at.gap
    (without_backslashes texts (joined_from texts at.is_first es))
