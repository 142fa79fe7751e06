-- C's grammar of preprocessing tokens (C23, 6.4). Each definition is a test of a whole text, which
-- has no backslash with a line feed after it: the compiler has taken these out.
--
-- preprocessing-token: identifier, pp-number, character-constant, string-literal, punctuator, or
-- each non-white-space character that cannot be one of these. A header-name is a token in an
-- #include directive alone, and is left out.
use Rattle.std.specs.Prelude.{ℕ, zero, suc, Bool, true, false, ◌==◌, ◌&&◌, ◌||◌, not}
use Rattle.std.specs.Prelude.{if◌then◌else◌, List, [], ◌∷◌, codes}
use Rattle.std.specs.List.{list_any, list_all}
use Rattle.std.specs.Str.{bytes_eq}
use Rattle.c_tokens.specs.Bytes.{line_feed, double_quote, apostrophe, asterisk, full_stop, slash}
use Rattle.c_tokens.specs.Bytes.{backslash, is_digit, is_hexadecimal, is_word_byte, is_sign}
use Rattle.c_tokens.specs.Bytes.{is_exponent, is_white}

-- the text begins with as many hexadecimal digits
abbrev pub begins_hexadecimal : ℕ → List ℕ → Bool
begins_hexadecimal zero bs = true
begins_hexadecimal (suc n) [] = false
begins_hexadecimal (suc n) (b ∷ bs) = is_hexadecimal b && begins_hexadecimal n bs

-- universal-character-name, after its backslash: u hex-quad, or U hex-quad hex-quad
abbrev pub begins_universal_name : List ℕ → Bool
begins_universal_name [] = false
begins_universal_name (b ∷ bs) =
    b == 117 && begins_hexadecimal 4 bs || b == 85 && begins_hexadecimal 8 bs

-- each backslash of the text begins a universal character name
abbrev pub has_universal_names : List ℕ → Bool
has_universal_names [] = true
has_universal_names (b ∷ bs) =
    (not (b == backslash) || begins_universal_name bs) && has_universal_names bs

-- identifier: an identifier-nondigit, and then identifier-nondigits and digits. An
-- identifier-nondigit is a nondigit (here a word byte that is no digit), or a universal character
-- name.

abbrev pub is_identifier_byte : ℕ → Bool
is_identifier_byte b = is_word_byte b || b == backslash

abbrev pub is_identifier : List ℕ → Bool
is_identifier [] = false
is_identifier (b ∷ bs) =
    not (is_digit b) && list_all is_identifier_byte (b ∷ bs) && has_universal_names (b ∷ bs)

-- pp-number: a digit, or a full stop and a digit, and then digits, identifier-nondigits, full
-- stops, apostrophes that are directly before a digit or a nondigit, and signs that are directly
-- after e, E, p or P, unless an apostrophe is directly before that letter. (A sign is also taken
-- directly after a universal character name that ends in e or E. The standard ends the number
-- there, and gcc does not.)

abbrev pub begins_number : List ℕ → Bool
begins_number [] = false
begins_number (b ∷ []) = is_digit b
begins_number (b ∷ c ∷ bs) = is_digit b || b == full_stop && is_digit c

abbrev pub is_number_byte : ℕ → Bool
is_number_byte b = is_identifier_byte b || b == full_stop || is_sign b || b == apostrophe

abbrev pub begins_with_sign : List ℕ → Bool
begins_with_sign [] = false
begins_with_sign (b ∷ bs) = is_sign b

-- each apostrophe of the text is directly before a digit or a nondigit, after which is no sign
abbrev pub apostrophes_separate : List ℕ → Bool
apostrophes_separate [] = true
apostrophes_separate (b ∷ []) = not (b == apostrophe)
apostrophes_separate (b ∷ c ∷ bs) =
    (not (b == apostrophe) || is_word_byte c && not (begins_with_sign bs))
    && apostrophes_separate (c ∷ bs)

abbrev pub signs_follow_exponents : List ℕ → Bool
signs_follow_exponents [] = true
signs_follow_exponents (b ∷ []) = true
signs_follow_exponents (b ∷ c ∷ bs) =
    (is_exponent b || not (is_sign c)) && signs_follow_exponents (c ∷ bs)

abbrev pub is_number : List ℕ → Bool
is_number text =
    begins_number text && list_all is_number_byte text && signs_follow_exponents text
    && apostrophes_separate text && has_universal_names text

-- A quoted text: between two quotes are characters other than the quote, the backslash and the line
-- feed, and escape sequences. Of an escape sequence only the backslash and the byte after it are
-- looked at: further octal and hexadecimal digits are characters anyway.

-- the text has such characters and then the closing quote, which is its last byte
abbrev pub ends_quoted : ℕ → List ℕ → Bool
ends_quoted quote [] = false
ends_quoted quote (b ∷ []) = b == quote
ends_quoted quote (b ∷ c ∷ bs) =
    if b == backslash then not (c == line_feed) && ends_quoted quote bs
    else not (b == quote || b == line_feed) && ends_quoted quote (c ∷ bs)

abbrev pub is_quoted : ℕ → List ℕ → Bool
is_quoted quote [] = false
is_quoted quote (b ∷ bs) = b == quote && ends_quoted quote bs

abbrev pub is_character : List ℕ → Bool
is_character text = is_quoted apostrophe text && not (bytes_eq text (codes "''"))

abbrev pub is_string : List ℕ → Bool
is_string = is_quoted double_quote

-- a prefix, and then a text that passes a test
abbrev pub has_prefix : List ℕ → (List ℕ → Bool) → List ℕ → Bool
has_prefix [] test text = test text
has_prefix (p ∷ ps) test [] = false
has_prefix (p ∷ ps) test (b ∷ bs) = b == p && has_prefix ps test bs

-- character-constant: 'c-char-sequence' alone, or after u8, u, U or L
abbrev pub is_character_constant : List ℕ → Bool
is_character_constant text =
    is_character text
    || list_any (λ prefix. has_prefix prefix is_character text)
    (codes "u8" ∷ codes "u" ∷ codes "U" ∷ codes "L" ∷ [])

-- string-literal: "s-char-sequence", which may be empty, alone, or after u8, u, U or L
abbrev pub is_string_literal : List ℕ → Bool
is_string_literal text =
    is_string text
    || list_any (λ prefix. has_prefix prefix is_string text)
    (codes "u8" ∷ codes "u" ∷ codes "U" ∷ codes "L" ∷ [])

-- punctuator
abbrev pub punctuators : List (List ℕ)
punctuators =
    codes "[" ∷ codes "]" ∷ codes "(" ∷ codes ")" ∷ codes "{" ∷ codes "}" ∷ codes "." ∷ codes "->"
    ∷ codes "++" ∷ codes "--" ∷ codes "&" ∷ codes "*" ∷ codes "+" ∷ codes "-" ∷ codes "~"
    ∷ codes "!" ∷ codes "/" ∷ codes "%" ∷ codes "<<" ∷ codes ">>" ∷ codes "<" ∷ codes ">"
    ∷ codes "<=" ∷ codes ">=" ∷ codes "==" ∷ codes "!=" ∷ codes "^" ∷ codes "|" ∷ codes "&&"
    ∷ codes "||" ∷ codes "?" ∷ codes ":" ∷ codes "::" ∷ codes ";" ∷ codes "..." ∷ codes "="
    ∷ codes "*=" ∷ codes "/=" ∷ codes "%=" ∷ codes "+=" ∷ codes "-=" ∷ codes "<<=" ∷ codes ">>="
    ∷ codes "&=" ∷ codes "^=" ∷ codes "|=" ∷ codes "," ∷ codes "#" ∷ codes "##" ∷ codes "<:"
    ∷ codes ":>" ∷ codes "<%" ∷ codes "%>" ∷ codes "%:" ∷ codes "%:%:" ∷ []

unfoldable pub is_punctuator : List ℕ → Bool
is_punctuator text = list_any (bytes_eq text) punctuators

-- a single character that is not white space
abbrev pub is_other_character : List ℕ → Bool
is_other_character (b ∷ []) = not (is_white b)
is_other_character _ = false

unfoldable pub is_token : List ℕ → Bool
is_token text =
    is_identifier text || is_number text || is_character_constant text || is_string_literal text
    || is_punctuator text || is_other_character text

-- Comments (6.4.9) and white-space characters stand between tokens.

-- `*/` is nowhere in the text but at its end
abbrev pub ends_once : List ℕ → Bool
ends_once [] = true
ends_once (b ∷ []) = true
ends_once (b ∷ c ∷ []) = true
ends_once (b ∷ c ∷ d ∷ bs) = not (b == asterisk && c == slash) && ends_once (c ∷ d ∷ bs)

-- `/*` and the characters up to the `*/` that ends the comment, or `//` and the characters up to
-- the line feed, which is not in the comment; or a front of these with the two characters that
-- open it
abbrev pub is_comment : List ℕ → Bool
is_comment (b ∷ c ∷ bs) =
    b == slash
    && (c == asterisk && ends_once bs || c == slash && list_all (λ d. not (d == line_feed)) bs)
is_comment _ = false

abbrev pub is_white_character : List ℕ → Bool
is_white_character (b ∷ []) = is_white b
is_white_character _ = false

-- the white-space characters, comments and tokens that a text is made of
unfoldable pub is_element : List ℕ → Bool
is_element text = is_white_character text || is_comment text || is_token text
