-- The bytes that the rules of reading mention.
use Rattle.std.specs.Prelude.{ℕ, ◌+◌, Bool, ◌==◌, ◌||◌}
use Rattle.tangle_files.specs.Bytes.{space}

abbrev pub double_quote : ℕ
double_quote = 34

abbrev pub at_sign : ℕ
at_sign = 64

abbrev pub letter_i : ℕ
letter_i = 105

abbrev pub letter_x : ℕ
letter_x = 120

abbrev pub letter_y : ℕ
letter_y = 121

abbrev pub letter_z : ℕ
letter_z = 122

-- white space: the space, tab, carriage return, vertical tab and form feed
abbrev pub is_white : ℕ → Bool
is_white b = (b == space) || ((b == 9) || ((b == 13) || ((b == 11) || (b == 12))))

-- the byte is this small letter or its capital
abbrev pub is_letter : ℕ → ℕ → Bool
is_letter small b = (b == small) || (b + 32 == small)
