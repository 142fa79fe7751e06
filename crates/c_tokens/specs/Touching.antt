-- Which texts may touch: a C compiler reads the same tokens with and without white space between
-- them. A separator is never a part of a longer token. An operator may be a part of a longer
-- operator, as + of ++, or of a number, as in 1e+5, but not of an identifier or a quoted text.
use Rattle.std.specs.Prelude.{◌≡◌, ℕ, Bool, true, false, ◌==◌, ◌&&◌, ◌||◌, not}
use Rattle.std.specs.Prelude.{List, [], ◌∷◌, codes}
use Rattle.std.specs.List.{list_any, list_all}
use Rattle.c_tokens.specs.Bytes.{is_digit, is_word_byte}
use Rattle.c_tokens.specs.Grammar.{is_character, is_string}
use Rattle.c_tokens.specs.Reading.{spliced, ends_in_comment}

pub data TextKind : Type 0 where
  Separator Operator Plain Other : TextKind

abbrev pub is_separator : ℕ → Bool
is_separator b = list_any (λ c. b == c) (codes "()[]{};,~")

abbrev pub is_operator : ℕ → Bool
is_operator b = list_any (λ c. b == c) (codes "!#%&*+-/:<=>?^|")

-- one byte, which passes the test
abbrev pub is_one : (ℕ → Bool) → List ℕ → Bool
is_one test (b ∷ []) = test b
is_one test _ = false

-- a word that does not begin with a digit
abbrev pub is_plain_word : List ℕ → Bool
is_plain_word [] = false
is_plain_word (b ∷ bs) = not (is_digit b) && list_all is_word_byte (b ∷ bs)

-- such a word, or a quoted text without a prefix
abbrev pub is_plain : List ℕ → Bool
is_plain text = is_plain_word text || is_character text || is_string text

-- Texts of these kinds. A quoted text may be continued over lines. Any text is of the other kind,
-- of a token or of several, if it opens no comment that it does not end.
abbrev pub IsOfKind : TextKind → List ℕ → Type 0
IsOfKind Separator text = is_one is_separator text ≡ true
IsOfKind Operator text = is_one is_operator text ≡ true
IsOfKind Plain text = is_plain (spliced text) ≡ true
IsOfKind Other text = ends_in_comment text ≡ false

abbrev pub kinds_may_touch : TextKind → TextKind → Bool
kinds_may_touch Separator g = true
kinds_may_touch k Separator = true
kinds_may_touch Operator Plain = true
kinds_may_touch Plain Operator = true
kinds_may_touch k g = false
