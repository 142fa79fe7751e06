-- Runs: ranges of a line that consist of words, signs, quoted texts and single spaces.
use Rattle.std.specs.Prelude.{ℕ, zero, suc, ◌+◌, Bool, true, false, ◌==◌, ◌&&◌, ◌||◌, not}
use Rattle.std.specs.Prelude.{if◌then◌else◌, List, [], ◌∷◌, slice_get, Option, None, Some}
use Rattle.std.specs.List.{prefix_len}
use Rattle.tangle_files.specs.Bytes.{space}
use Rattle.tangle_lines.specs.Bytes.{at_sign, double_quote, is_white}
use Rattle.tangle_text.specs.Bytes.{apostrophe, asterisk, slash, backslash, holds, is_digit, is_word_byte}
use Rattle.tangle_text.specs.Text.{Cell, line_bytes, span_at, span_text}
use Rattle.tangle_text.specs.Regions.{is_separator}
use Rattle.tangle_text.specs.declared.spans.Span.{Span}
use Rattle.tangle_text.specs.declared.runs.RunPart.{RunPart}
use Rattle.tangle_text.specs.declared.runs.RunPart.TheVariants as part

-- a byte that opens nothing longer than a word in a C part, and is no white space and no backslash,
-- which may continue a line
abbrev pub is_plain : ℕ → Bool
is_plain b =
    not (is_white b || b == double_quote || b == apostrophe || b == slash || b == at_sign
    || b == backslash)

abbrev pub holds_plain : Option ℕ → Bool
holds_plain None = false
holds_plain (Some b) = is_plain b

-- a plain byte, or a slash that opens no comment
abbrev pub is_single : ℕ → List ℕ → Bool
is_single b bs =
    is_plain b || b == slash && not (holds asterisk (slice_get bs 0) || holds slash (slice_get bs 0))

abbrev pub begins_single : List ℕ → Bool
begins_single [] = false
begins_single (b ∷ bs) = is_single b bs

-- a run may go over such a byte, and over a space before one
abbrev pub is_run_byte : ℕ → List ℕ → Bool
is_run_byte b bs = is_single b bs || b == space && begins_single bs

-- the number of bytes at the front that pass a test of a byte and those after it
abbrev pub passing : (ℕ → List ℕ → Bool) → List ℕ → ℕ
passing test [] = 0
passing test (b ∷ bs) = if test b bs then 1 + passing test bs else 0

-- a number goes over word bytes, and over an apostrophe before one
abbrev pub is_number_byte : ℕ → List ℕ → Bool
is_number_byte b bs = is_word_byte b || is_separator (Some b) (slice_get bs 0)

-- the number of bytes of a word after its first byte
abbrev pub word_size : ℕ → List ℕ → ℕ
word_size b bs = if is_digit b then passing is_number_byte bs else prefix_len is_word_byte bs

-- parts

-- a byte that begins and ends a quoted text
abbrev pub is_quote : ℕ → Bool
is_quote b = b == double_quote || b == apostrophe

-- word bytes, as many as there are, are directly before a quoted text
abbrev pub is_before_quote : List ℕ → Bool
is_before_quote [] = false
is_before_quote (b ∷ bs) = if is_word_byte b then is_before_quote bs else is_quote b

-- one more, unless there are none
abbrev pub one_more : ℕ → ℕ
one_more zero = 0
one_more (suc n) = suc (suc n)

-- The number of bytes up to and with the one that closes a quoted text; none if it is not closed on
-- its line, or if an `@` is before that byte. `escaped` is whether a backslash takes the first byte
-- with it.
abbrev pub quote_size : ℕ → Bool → List ℕ → ℕ
quote_size close escaped [] = 0
quote_size close escaped (b ∷ bs) =
    if b == at_sign then 0 else
    if b == close && not escaped then 1
    else one_more (quote_size close (b == backslash && not escaped) bs)

-- the number of bytes that a part has after its first byte
abbrev pub part_more : ℕ → List ℕ → ℕ
part_more b bs =
    if is_word_byte b then prefix_len is_word_byte bs else
    if is_quote b then quote_size b false bs else 0

-- the part of this size that begins with this byte at this column of a line
abbrev pub part_at : ℕ → ℕ → ℕ → ℕ → RunPart
part_at line column size b =
    let s : Span = record { line = line; start = column; end = column + size } in
    if b == space then part.Space else
    if is_word_byte b then part.Word s else if is_quote b then part.Quoted s else part.Sign s

-- the parts of bytes from this column of a line on, each where the one before it ends; `k` bytes at
-- the front belong to an earlier part
abbrev pub parts_of : ℕ → ℕ → ℕ → List ℕ → List RunPart
parts_of line column k [] = []
parts_of line column (suc k) (b ∷ bs) = parts_of line (column + 1) k bs
parts_of line column zero (b ∷ bs) =
    part_at line column (1 + part_more b bs) b ∷ parts_of line (column + 1) (part_more b bs) bs

-- the words, signs, quoted texts and spaces of a run
unfoldable pub run_parts : List (List ℕ) → Span → List RunPart
run_parts texts s = parts_of s.line s.start 0 (span_text texts s)

-- Whether each space has another part directly before and after it, and each quoted text one that is
-- no word directly before it. `after_space` is whether a space, or nothing, is before these parts,
-- and `after_word` whether a word, or nothing, is.
abbrev pub are_apart : Bool → Bool → List RunPart → Bool
are_apart after_space after_word [] = not after_space
are_apart after_space after_word (part.Space ∷ parts) =
    not after_space && are_apart true false parts
are_apart after_space after_word (part.Quoted s ∷ parts) =
    not after_word && are_apart false false parts
are_apart after_space after_word (part.Word s ∷ parts) = are_apart false true parts
are_apart after_space after_word (part.Sign s ∷ parts) = are_apart false false parts

-- the run at the front of the rest of a line

-- A run may go over this item: a word that no quoted text follows, which could be a raw string or
-- the rest of a number, a quoted text that closes on its line and has no `@`, or a sign that opens
-- no comment.
abbrev pub is_run_item : ℕ → List ℕ → Bool
is_run_item b bs =
    if is_word_byte b then not (is_before_quote bs) else
    if is_quote b then not (part_more b bs == 0) else is_single b bs

abbrev pub begins_item : List ℕ → Bool
begins_item [] = false
begins_item (b ∷ bs) = is_run_item b bs

-- a run goes over such an item, and over a space before one
abbrev pub goes_over : ℕ → List ℕ → Bool
goes_over b bs = if b == space then begins_item bs else is_run_item b bs

-- the number of bytes of the run; `k` bytes at the front belong to a part that it goes over
abbrev pub run_size : ℕ → List ℕ → ℕ
run_size k [] = 0
run_size (suc k) (b ∷ bs) = 1 + run_size k bs
run_size zero (b ∷ bs) = if goes_over b bs then 1 + run_size (part_more b bs) bs else 0

-- the number of cells of the run at the front of a text
abbrev pub run_count : List Cell → ℕ
run_count text = run_size 0 (line_bytes text)

-- the span of the run at the front of a text, unless no byte is in it
abbrev pub run_at : List Cell → Option Span
run_at text = if run_count text == 0 then None else Some (span_at (run_count text) text)
