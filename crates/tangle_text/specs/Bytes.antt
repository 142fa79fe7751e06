-- Bytes and their classes. A cell of the text has a byte, or `None` at a line end.
use Rattle.std.specs.Prelude.{ℕ, ◌+◌, Bool, true, false, ◌==◌, nat_le, ◌&&◌, ◌||◌, if◌then◌else◌}
use Rattle.std.specs.Prelude.{not, Option, Some, None}
use Rattle.tangle_lines.specs.Bytes.{at_sign, double_quote, is_white}

-- the bytes with a meaning in CWEB or in C, besides those of the rules of reading

abbrev pub number_sign : ℕ
number_sign = 35

abbrev pub apostrophe : ℕ
apostrophe = 39

abbrev pub left_parenthesis : ℕ
left_parenthesis = 40

abbrev pub asterisk : ℕ
asterisk = 42

abbrev pub plus_sign : ℕ
plus_sign = 43

abbrev pub slash : ℕ
slash = 47

abbrev pub less_sign : ℕ
less_sign = 60

abbrev pub equals_sign : ℕ
equals_sign = 61

abbrev pub greater_sign : ℕ
greater_sign = 62

abbrev pub backslash : ℕ
backslash = 92

-- classes of bytes

abbrev pub is_between : ℕ → ℕ → ℕ → Bool
is_between low high b = nat_le low b && nat_le b high

abbrev pub is_digit : ℕ → Bool
is_digit b = is_between 48 57 b

-- a letter, a digit, _, $ or a byte past 127
abbrev pub is_word_byte : ℕ → Bool
is_word_byte b =
    is_between 97 122 b || is_between 65 90 b || is_digit b
    || b == 95 || b == 36 || is_between 128 255 b

-- a byte that may open something longer, or may continue a line
abbrev pub is_opener : ℕ → Bool
is_opener b =
    b == at_sign || b == slash || b == double_quote || b == apostrophe || b == less_sign
    || b == backslash

-- a byte that is a sign wherever a lexeme begins with it, and no more than that
abbrev pub is_sign_byte : ℕ → Bool
is_sign_byte b = not (is_opener b || is_white b || is_word_byte b)

-- the small letter of a capital one; any other byte unchanged
abbrev pub lower : ℕ → ℕ
lower b = if is_between 65 90 b then b + 32 else b

-- classes of cells, by the byte of the cell

-- this byte
abbrev pub holds : ℕ → Option ℕ → Bool
holds expected None = false
holds expected (Some b) = b == expected

-- a line end
abbrev pub is_line_end : Option ℕ → Bool
is_line_end None = true
is_line_end (Some b) = false

-- white space
abbrev pub holds_white : Option ℕ → Bool
holds_white None = false
holds_white (Some b) = is_white b

-- white space or a line end
abbrev pub is_white_or_line_end : Option ℕ → Bool
is_white_or_line_end None = true
is_white_or_line_end (Some b) = is_white b

-- a word byte
abbrev pub holds_word_byte : Option ℕ → Bool
holds_word_byte None = false
holds_word_byte (Some b) = is_word_byte b

-- an octal digit
abbrev pub is_octal : Option ℕ → Bool
is_octal None = false
is_octal (Some b) = is_between 48 55 b

-- two cells, one after the other

-- these two bytes
abbrev pub are_bytes : ℕ → ℕ → Option ℕ → Option ℕ → Bool
are_bytes first second b next = holds first b && holds second next

-- `@` before white space or a line end, and `@*`
abbrev pub is_section_start : Option ℕ → Option ℕ → Bool
is_section_start b next = holds at_sign b && (is_white_or_line_end next || holds asterisk next)

-- `@<` and `@(`
abbrev pub is_name_start : Option ℕ → Option ℕ → Bool
is_name_start b next = holds at_sign b && (holds less_sign next || holds left_parenthesis next)

-- `@>`
abbrev pub is_end_code : Option ℕ → Option ℕ → Bool
is_end_code b next = are_bytes at_sign greater_sign b next
