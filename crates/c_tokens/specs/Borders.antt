-- Where a text of several tokens may end and another begin, so that a C compiler reads no token of
-- both.
use Rattle.std.specs.Prelude.{ℕ, Bool, true, false, ◌==◌, ◌&&◌, ◌||◌, not, List, [], ◌∷◌, ◌++◌}
use Rattle.std.specs.List.{list_any}
use Rattle.c_tokens.specs.Bytes.{line_feed, space, apostrophe, slash, backslash}
use Rattle.c_tokens.specs.Bytes.{is_word_byte, is_quote}
use Rattle.c_tokens.specs.Bytes.{is_sign, is_exponent, is_white}
use Rattle.c_tokens.specs.Grammar.{is_number, is_comment}
use Rattle.c_tokens.specs.Reading.{spliced, elements_from, elements}
use Rattle.c_tokens.specs.Touching.{is_one, is_separator, is_operator}

-- What follows may belong to this element: a comment that is still open, or a quote that no other
-- one closes.
abbrev pub is_unfinished : List ℕ → Bool
is_unfinished element = is_comment (element ++ space ∷ []) || is_one is_quote element

-- a text whose comments and quoted texts are all ended
abbrev pub is_whole : List ℕ → Bool
is_whole text = not (list_any is_unfinished (elements text))

-- the last of these elements, or the one before them
abbrev pub last_element : List ℕ → List (List ℕ) → List ℕ
last_element before [] = before
last_element before (element ∷ rest) = last_element element rest

-- the last byte of a text that begins with this one
abbrev pub last_byte : ℕ → List ℕ → ℕ
last_byte b [] = b
last_byte b (c ∷ bs) = last_byte c bs

-- a byte of a word or a quote
abbrev pub is_plain_byte : ℕ → Bool
is_plain_byte b = is_word_byte b || is_quote b

-- No token, and no comment, has both of these bytes one after the other, unless they are within
-- quotes or a comment: one of them is white space or a separator, or the second one is a slash
-- after another byte than a slash.
abbrev pub are_never_in_one : ℕ → ℕ → Bool
are_never_in_one last next =
    is_white last || is_white next || is_separator last || is_separator next
    || next == slash && not (last == slash)

-- an operator, and a byte of a word or a quote
abbrev pub is_at_operator : ℕ → ℕ → Bool
is_at_operator last next =
    is_operator last && is_plain_byte next || is_plain_byte last && is_operator next

-- A number goes on: with a sign after e, E, p or P, or with a byte of a word or an apostrophe after
-- a sign.
abbrev pub number_goes_on : ℕ → ℕ → Bool
number_goes_on last next =
    is_exponent last && is_sign next
    || is_sign last && (is_word_byte next || next == apostrophe)

-- A border is between two bytes that are never in one, or at an operator, unless a number before it
-- goes on, as 1e+5 does.
abbrev pub is_border_of_bytes : Bool → ℕ → ℕ → Bool
is_border_of_bytes after_number last next =
    are_never_in_one last next
    || not (after_number && number_goes_on last next) && is_at_operator last next

-- such a border, or the end of a comment; `element`: the one that ends with the last byte
abbrev pub is_border : List ℕ → ℕ → ℕ → Bool
is_border element last next =
    is_border_of_bytes (is_number element) last next || is_comment element && last == slash

-- a border is between two texts, or one of them is empty
abbrev pub have_border : List ℕ → List ℕ → Bool
have_border [] b = true
have_border (x ∷ a) [] = true
have_border (x ∷ a) (c ∷ r) =
    is_border (last_element [] (elements_from 0 (x ∷ a))) (last_byte x a) c

-- no backslash at the end of the first text takes out a line feed at the front of the second
abbrev pub keep_lines : List ℕ → List ℕ → Bool
keep_lines [] b = true
keep_lines (x ∷ a) [] = true
keep_lines (x ∷ a) (c ∷ r) = not (last_byte x a == backslash && c == line_feed)

-- two texts, written one after the other
abbrev pub are_apart : List ℕ → List ℕ → Bool
are_apart a b = is_whole a && keep_lines a b && have_border (spliced a) (spliced b)

abbrev pub has_bytes : List ℕ → Bool
has_bytes [] = false
has_bytes (b ∷ bs) = true

-- Texts in a row: each is apart from the next one, which has a byte.
abbrev pub are_all_apart : List (List ℕ) → Bool
are_all_apart [] = true
are_all_apart (a ∷ []) = true
are_all_apart (a ∷ b ∷ rest) = are_apart a b && has_bytes (spliced b) && are_all_apart (b ∷ rest)
