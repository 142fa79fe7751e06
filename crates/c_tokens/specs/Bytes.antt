-- Bytes and their classes, as C's grammar of tokens names them. A byte past 127 counts as a letter,
-- as it does for gcc, and so does `$`.
use Rattle.std.specs.Prelude.{ℕ, Bool, ◌==◌, nat_le, ◌&&◌, ◌||◌}

abbrev pub line_feed : ℕ
line_feed = 10

abbrev pub space : ℕ
space = 32

abbrev pub double_quote : ℕ
double_quote = 34

abbrev pub apostrophe : ℕ
apostrophe = 39

abbrev pub asterisk : ℕ
asterisk = 42

abbrev pub full_stop : ℕ
full_stop = 46

abbrev pub slash : ℕ
slash = 47

abbrev pub backslash : ℕ
backslash = 92

abbrev pub is_between : ℕ → ℕ → ℕ → Bool
is_between low high b = nat_le low b && nat_le b high

abbrev pub is_digit : ℕ → Bool
is_digit b = is_between 48 57 b

abbrev pub is_hexadecimal : ℕ → Bool
is_hexadecimal b = is_digit b || is_between 97 102 b || is_between 65 70 b

-- a letter, a digit, _, $ or a byte past 127
abbrev pub is_word_byte : ℕ → Bool
is_word_byte b =
    is_between 97 122 b || is_between 65 90 b || is_digit b
    || b == 95 || b == 36 || is_between 128 255 b

abbrev pub is_quote : ℕ → Bool
is_quote b = b == double_quote || b == apostrophe

-- plus or minus
abbrev pub is_sign : ℕ → Bool
is_sign b = b == 43 || b == 45

-- e, E, p or P
abbrev pub is_exponent : ℕ → Bool
is_exponent b = b == 101 || b == 69 || b == 112 || b == 80

-- the white-space characters: space, horizontal tab, line feed, vertical tab, form feed (a carriage
-- return is none)
abbrev pub is_white : ℕ → Bool
is_white b = b == space || b == 9 || b == line_feed || b == 11 || b == 12
