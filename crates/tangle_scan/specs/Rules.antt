-- Five rules make items of the tokens of a C part or a macro. Each is applied to the whole list in
-- turn, so that it can be read, and proved, alone.
use Rattle.std.specs.Prelude.{ℕ, ◌+◌, Bool, true, false, ◌==◌, nat_le, ◌&&◌, ◌||◌, not}
use Rattle.std.specs.Prelude.{if◌then◌else◌, codes, Option, None, Some, is_some}
use Rattle.std.specs.Prelude.{List, [], ◌∷◌, ◌++◌, map, length}
use Rattle.std.specs.List.{list_any}
use Rattle.tangle_lines.specs.declared.origin.Origin.{Origin}
use Rattle.tangle_lines.specs.Reading.{SourceLine, origin_at}
use Rattle.tangle_text.specs.declared.spans.Span.{Span}
use Rattle.tangle_scan.specs.declared.items.Item.{Item}
use Rattle.tangle_scan.specs.declared.items.Item.TheVariants as item
use Rattle.tangle_scan.specs.declared.touching.TouchKind.{TouchKind}
use Rattle.tangle_scan.specs.declared.touching.TouchKind.TheVariants.{Separator, Operator, Plain}
use Rattle.tangle_scan.specs.declared.touching.TouchKind.TheVariants.{Other}
use Rattle.tangle_lexer.specs.declared.tokens.Token.{Token}
use Rattle.tangle_lexer.specs.declared.tokens.SpanKind.{SpanKind}
use Rattle.tangle_lexer.specs.declared.tokens.SpanKind.TheVariants as span_kind
use Rattle.tangle_lexer.specs.declared.tokens.Token.TheVariants as token
pub use Rattle.tangle_text.specs.Text.{texts_of, span_text}
use Rattle.tangle_scan.specs.Directives.{is_turn}
use Rattle.tangle_lexer.specs.SpanBytes.{first_byte, ends_in, ends_in_backslash}
use Rattle.tangle_text.specs.Bytes.{left_parenthesis, apostrophe, backslash, slash, is_digit}

abbrev pub full_stop : ℕ
full_stop = 46

-- the tokens without faults, which are not items
abbrev pub without_faults : List Token → List Token
without_faults [] = []
without_faults (token.Fault kind line ∷ es) = without_faults es
without_faults (e ∷ es) = e ∷ without_faults es

-- A line end inside a comment or a control text of a directive is white space, since the directive
-- ends where the author ended it.

abbrev pub white_inner_end : Token → Token
white_inner_end (token.InnerLineEnd line) = token.White
white_inner_end e = e

-- the tokens without faults, and with white space for such line ends
abbrev pub clean_tokens : List Token → List Token
clean_tokens tokens = map white_inner_end (without_faults tokens)

-- joins, white space and line ends
abbrev pub is_gap : Token → Bool
is_gap token.Join = true
is_gap token.White = true
is_gap (token.LineEnd line) = true
is_gap (token.InnerLineEnd line) = true
is_gap _ = false

-- Rule 1: white space is put between an ASCII constant and another one, a word, a verbatim text, a
-- full stop or a backslash that touch, in either order, and between a constant and a quoted text
-- directly after it that an apostrophe begins. The constant is written as a number, and a C compiler
-- would read both as one number, as in 97...122 and 65'b', or the next line as a part of it, after a
-- backslash.

abbrev pub is_constant : Token → Bool
is_constant (token.AsciiConstant value line) = true
is_constant _ = false

-- what a number beside it would be read as one with
abbrev pub may_merge : List (List ℕ) → Token → Bool
may_merge texts (token.AsciiConstant value line) = true
may_merge texts (token.Span span_kind.Word s) = true
may_merge texts (token.Span span_kind.Verbatim s) = true
may_merge texts (token.Span span_kind.Sign s) =
    first_byte texts s == full_stop || first_byte texts s == backslash
may_merge texts _ = false

-- a quoted text that an apostrophe begins
abbrev pub is_character : List (List ℕ) → Token → Bool
is_character texts (token.Span span_kind.Quoted s) = first_byte texts s == apostrophe
is_character texts _ = false

abbrev pub would_merge : List (List ℕ) → Token → Token → Bool
would_merge texts e f =
    is_constant e && (may_merge texts f || is_character texts f)
    || may_merge texts e && is_constant f

abbrev pub with_spaces : List (List ℕ) → List Token → List Token
with_spaces texts [] = []
with_spaces texts (e ∷ []) = e ∷ []
with_spaces texts (e ∷ f ∷ es) =
    e ∷ (if would_merge texts e f then token.White ∷ [] else []) ++ with_spaces texts (f ∷ es)

-- In a macro, white space is also put after the name, which is the first item, unless an opening
-- parenthesis, white space, a line end or a join follows.

abbrev pub may_follow_name : List (List ℕ) → Token → Bool
may_follow_name texts (token.Span span_kind.Sign s) = first_byte texts s == left_parenthesis
may_follow_name texts e = is_gap e

abbrev pub with_space_after : List (List ℕ) → Token → List Token → List Token
with_space_after texts first [] = first ∷ []
with_space_after texts first (e ∷ es) =
    first ∷ (if may_follow_name texts e then [] else token.White ∷ []) ++ e ∷ es

abbrev pub with_name_space : List (List ℕ) → List Token → List Token
with_name_space texts [] = []
with_name_space texts (token.White ∷ es) = token.White ∷ with_name_space texts es
with_name_space texts (token.LineEnd line ∷ es) = token.LineEnd line ∷ with_name_space texts es
with_name_space texts (token.Join ∷ es) = token.Join ∷ with_name_space texts es
with_name_space texts (e ∷ es) = with_space_after texts e es

-- Rule 2: each run of joins, white space and line ends that has a join is removed.

abbrev pub has_join : List Token → Bool
has_join [] = false
has_join (token.Join ∷ es) = true
has_join (e ∷ es) = has_join es

-- Each run of joins, white space and line ends is replaced by what `f` gives for it. `run` is the
-- part of the first run that is before this list.
abbrev pub map_runs : (List Token → List Token) → List Token → List Token → List Token
map_runs f run [] = f run
map_runs f run (e ∷ es) =
    if is_gap e then map_runs f (run ++ e ∷ []) es else f run ++ e ∷ map_runs f [] es

abbrev pub left_of_run : List Token → List Token
left_of_run run = if has_join run then [] else run

abbrev pub without_joins : List Token → List Token → List Token
without_joins run es = map_runs left_of_run run es

-- Lines that a C compiler joins. Before it reads tokens, it takes out each backslash with a line
-- feed directly after it. So a line is continued by the next one if its last item is a sign or a
-- verbatim text that ends in a backslash.

-- whether a line that ends after this token, if there is one on it, is continued by the next line
abbrev pub is_continued : List (List ℕ) → Option Token → Bool
is_continued texts None = false
is_continued texts (Some e) = ends_in_backslash texts e

-- Rule 3: white space between two items of a line is a blank, for which one White is left, and so
-- is white space at the front of a line that continues another. Other white space is dropped. A
-- line end alone makes no blank: a word that a backslash and a line feed cut is one word.

-- the token before the first item of the next line: the end of this line, if the next line
-- continues it, else none
abbrev pub at_line_front : List (List ℕ) → Option Token → ℕ → Option Token
at_line_front texts before line =
    if is_continued texts before then Some (token.LineEnd line) else None

-- At the end of a piece a blank keeps the slash of the piece's closing mark apart: from a slash, with
-- which it would open a comment that the C compiler ends at the next line end only, and from a line
-- that the closing mark's line would continue.
abbrev pub is_open : List (List ℕ) → Option Token → Bool
is_open texts None = false
is_open texts (Some (token.LineEnd line)) = true
is_open texts (Some e) = ends_in slash texts e

-- White space is a blank if it is after a token `before`: an item on the same line, or the end of
-- the line that this line continues. `white`: white space is directly before these tokens.
abbrev pub blanks : List (List ℕ) → Option Token → Bool → List Token → List Token
blanks texts before white [] = if is_open texts before then token.White ∷ [] else []
blanks texts before white (token.White ∷ es) = blanks texts before true es
blanks texts before white (token.LineEnd line ∷ es) =
    token.LineEnd line ∷ blanks texts (at_line_front texts before line) false es
blanks texts before white (e ∷ es) =
    (if is_some before && white then token.White ∷ [] else []) ++ e ∷ blanks texts (Some e) false es

-- Before rule 3, a backslash of the author's that is directly before a line end of a macro is
-- dropped, white space aside: a backslash is written before each line end of a macro anyway, and
-- the author's would be one too many.

-- the next token other than white space is a line end
abbrev pub ends_line : List Token → Bool
ends_line [] = false
ends_line (token.White ∷ es) = ends_line es
ends_line (token.LineEnd line ∷ es) = true
ends_line (e ∷ es) = false

-- whether a token before the tokens `es` is such a backslash
abbrev pub is_line_backslash : List (List ℕ) → Token → List Token → Bool
is_line_backslash texts (token.Span span_kind.Sign s) es =
    first_byte texts s == backslash && ends_line es
is_line_backslash texts e es = false

abbrev pub without_backslashes : List (List ℕ) → List Token → List Token
without_backslashes texts [] = []
without_backslashes texts (e ∷ es) =
    (if is_line_backslash texts e es then [] else e ∷ []) ++ without_backslashes texts es

-- Rule 3 in a macro. A backslash is written before each line end of a macro, so a C compiler takes
-- all of them out. If only line ends keep two items apart, a blank goes before the line ends,
-- unless the items may touch. It is directly after the first item, so that each line begins with an
-- item.

-- Two items may touch if a C compiler reads the same tokens with and without white space between
-- them. A separator is never a part of a longer token. An operator may be a part of a longer
-- operator, as + of ++, or of a number, as in 1e+5, but not of an identifier or a quoted text. Two
-- words would be read as one word, a number and a word after it as one number, and L and "x" as a
-- wide string. The rule looks only at two items, without C's grammar of tokens: an unneeded blank
-- changes no token, and each further kind would be one more claim about C.

abbrev pub sign_kind : ℕ → TouchKind
sign_kind b =
    if list_any (λ c. b == c) (codes "()[]{};,~") then Separator else
    if list_any (λ c. b == c) (codes "!#%&*+-/:<=>?^|") then Operator else Other

abbrev pub touch_kind : List (List ℕ) → Token → TouchKind
touch_kind texts (token.Span span_kind.Sign s) = sign_kind (first_byte texts s)
touch_kind texts (token.Span span_kind.Word s) =
    if is_digit (first_byte texts s) then Other else Plain
touch_kind texts (token.Span span_kind.Quoted s) = Plain
touch_kind texts _ = Other

abbrev pub kinds_may_touch : TouchKind → TouchKind → Bool
kinds_may_touch Separator g = true
kinds_may_touch k Separator = true
kinds_may_touch Operator Plain = true
kinds_may_touch Plain Operator = true
kinds_may_touch k g = false

abbrev pub may_touch : List (List ℕ) → Token → Token → Bool
may_touch texts e f = kinds_may_touch (touch_kind texts e) (touch_kind texts f)

-- The name of a macro is its first item with the words, ASCII constants and verbatim texts that
-- follow directly: joins can make one name of several items. White space after the name is kept
-- even before a separator, since #define call (f) has no parameter, and #define call(f) has one.
abbrev pub is_name_part : Token → Bool
is_name_part (token.Span span_kind.Word s) = true
is_name_part (token.Span span_kind.Verbatim s) = true
is_name_part (token.AsciiConstant value line) = true
is_name_part _ = false

-- the first token that is neither white space nor a line end
abbrev pub next_item : List Token → Option Token
next_item [] = None
next_item (token.White ∷ es) = next_item es
next_item (token.LineEnd line ∷ es) = next_item es
next_item (e ∷ es) = Some e

-- whether a blank goes before the line ends between these two items; `in_name`: the first item ends
-- the macro's name
abbrev pub has_blank_at_line_end : List (List ℕ) → Bool → Option Token → Option Token → Bool
has_blank_at_line_end texts in_name (Some e) (Some f) = in_name || not (may_touch texts e f)
has_blank_at_line_end texts in_name before next = false

-- `in_name`: all items so far are the macro's name. `before`: the last item of the current line, if
-- it has one. `white`: white space is directly before these tokens.
abbrev pub macro_blanks : List (List ℕ) → Bool → Option Token → Bool → List Token → List Token
macro_blanks texts in_name before white [] = []
macro_blanks texts in_name before white (token.White ∷ es) =
    macro_blanks texts in_name before true es
macro_blanks texts in_name before white (token.LineEnd line ∷ es) =
    (if has_blank_at_line_end texts in_name before (next_item es) then token.White ∷ [] else [])
    ++ token.LineEnd line ∷ macro_blanks texts false None false es
macro_blanks texts in_name before white (e ∷ es) =
    (if is_some before && white then token.White ∷ [] else [])
    ++ e ∷ macro_blanks texts (in_name && not white && is_name_part e) (Some e) false es

-- Rule 4: in a C part a line mark follows each use and each @h, with the origin of the line on
-- which that ends. A mark also follows each line end, with the origin of the next source line, if
-- there is one. No mark follows the end of a continued line, where the compiler would read the mark
-- as a part of that line.

-- the item for a span of this kind
abbrev pub span_item : SpanKind → Span → Item
span_item span_kind.Word s = item.Word s
span_item span_kind.Sign s = item.Sign s
span_item span_kind.Quoted s = item.Quoted s
span_item span_kind.Verbatim s = item.Verbatim s

-- the item of a token, as a list: heads, joins and faults are not items
abbrev pub token_items : Token → List Item
token_items token.White = item.Blank ∷ []
token_items (token.LineEnd line) = item.LineEnd ∷ []
token_items (token.QuoteBreak line) = item.QuoteBreak ∷ []
token_items (token.Span kind s) = span_item kind s ∷ []
token_items (token.AsciiConstant value line) = item.AsciiConstant value ∷ []
token_items (token.UseOf line occurrence) = item.UseOf occurrence ∷ []
token_items (token.AllMacros line) = item.AllMacros ∷ []
token_items _ = []

-- The mark after a token, as a list. `before` is the token before that token. Rule 3 leaves no
-- white space directly before a line end, so there `before` is the last item of the line, if the
-- line has one.
abbrev pub marks_after : List SourceLine → Option Token → Token → List Item
marks_after lines before (token.UseOf line occurrence) = item.LineMark (origin_at lines line) ∷ []
marks_after lines before (token.AllMacros line) = item.LineMark (origin_at lines line) ∷ []
marks_after lines before (token.LineEnd line) =
    if is_continued (texts_of lines) before || nat_le (length lines) (line + 1)
    then [] else item.LineMark (origin_at lines (line + 1)) ∷ []
marks_after lines before _ = []

-- the items of these tokens, with all marks; `before`: the token before these tokens
abbrev pub with_all_marks : List SourceLine → Option Token → List Token → List Item
with_all_marks lines before [] = []
with_all_marks lines before (e ∷ es) =
    token_items e ++ (marks_after lines before e ++ with_all_marks lines (Some e) es)

-- Rule 5: of a line end and the mark after it only one is left. A compiler that reads all lines
-- counts an origin: a mark sets it, and a line end, also one in a quoted text, adds one line to it.
-- The line end is left if the compiler counts the mark's origin after it, else the mark is left. The
-- mark is left at the end of a turn, too: a compiler may have left out the lines before it, and then
-- it obeyed none of their marks.

abbrev pub next_line : Origin → Origin
next_line p = record { file = p.file; line = p.line + 1 }

abbrev pub same_origin : Origin → Origin → Bool
same_origin p q = p.file == q.file && p.line == q.line

-- The items with the marks that are needed. `line`: the items before them on their line of C, which
-- goes on over a line end that has no mark after it; `counted`: the origin that is counted before
-- them.
abbrev pub with_needed_marks : List (List ℕ) → List Item → Origin → List Item → List Item
with_needed_marks texts line counted [] = []
with_needed_marks texts line counted (item.LineEnd ∷ item.LineMark p ∷ items) =
    (if same_origin p (next_line counted) && not (is_turn texts line)
    then item.LineEnd else item.LineMark p)
    ∷ with_needed_marks texts [] p items
with_needed_marks texts line counted (item.LineEnd ∷ items) =
    item.LineEnd ∷ with_needed_marks texts (line ++ item.LineEnd ∷ []) (next_line counted) items
with_needed_marks texts line counted (item.QuoteBreak ∷ items) =
    item.QuoteBreak
    ∷ with_needed_marks texts (line ++ item.QuoteBreak ∷ []) (next_line counted) items
with_needed_marks texts line counted (item.LineMark p ∷ items) =
    item.LineMark p ∷ with_needed_marks texts [] p items
with_needed_marks texts line counted (x ∷ items) =
    x ∷ with_needed_marks texts (line ++ x ∷ []) counted items

-- the tokens of a C part after rules 1 and 2
abbrev pub part_tokens : List (List ℕ) → List Token → List Token
part_tokens texts tokens = without_joins [] (with_spaces texts (clean_tokens tokens))

-- The items of a C part whose head ends on this line. The origin of that line is counted first.
abbrev pub part_items : List SourceLine → ℕ → List Token → List Item
part_items lines line tokens =
    with_needed_marks (texts_of lines) [] (origin_at lines line)
    (with_all_marks lines None (blanks (texts_of lines) None false (part_tokens (texts_of lines) tokens)))

-- Macros have no marks, and white space and line ends after @d are skipped.

abbrev pub is_front_gap : Token → Bool
is_front_gap token.White = true
is_front_gap (token.LineEnd line) = true
is_front_gap e = false

-- the tokens after the white space and the line ends at the front
abbrev pub without_front_gaps : List Token → List Token
without_front_gaps [] = []
without_front_gaps (e ∷ es) = if is_front_gap e then without_front_gaps es else e ∷ es

abbrev pub unmarked_items : List Token → List Item
unmarked_items [] = []
-- uses and @h are not in macros
unmarked_items (token.UseOf line occurrence ∷ es) = unmarked_items es
unmarked_items (token.AllMacros line ∷ es) = unmarked_items es
unmarked_items (e ∷ es) = token_items e ++ unmarked_items es

-- the tokens of a macro after rules 1 and 2
abbrev pub macro_tokens : List (List ℕ) → List Token → List Token
macro_tokens texts tokens = without_joins []
    (with_name_space texts (with_spaces texts (without_front_gaps (clean_tokens tokens))))

abbrev pub macro_items : List (List ℕ) → List Token → List Item
macro_items texts tokens =
    unmarked_items
    (macro_blanks texts true None false (without_backslashes texts (macro_tokens texts tokens)))

-- A macro is kept if its first item is a word that begins with a word byte other than a digit.
abbrev pub is_macro : List (List ℕ) → List Item → Bool
is_macro texts (item.Word s ∷ items) = not (is_digit (first_byte texts s))
is_macro texts _ = false
