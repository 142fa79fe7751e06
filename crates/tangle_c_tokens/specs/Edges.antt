-- The first and the last byte of a text.
use Rattle.std.specs.Prelude.{ℕ, Bool, true, false, ◌&&◌, List, [], ◌∷◌}
use Rattle.c_tokens.specs.Grammar.{is_number}
use Rattle.c_tokens.specs.Reading.{elements_from}
use Rattle.c_tokens.specs.Borders.{last_element, last_byte, is_plain_byte, number_goes_on}
use Rattle.c_tokens.specs.Touching.{TextKind, is_separator, is_operator}
use Rattle.c_tokens.specs.Touching.TextKind.{Separator, Operator, Plain, Other}

-- the text begins, or ends, with a byte that passes the test
abbrev pub first_byte_passes : (ℕ → Bool) → List ℕ → Bool
first_byte_passes test [] = false
first_byte_passes test (b ∷ bs) = test b

abbrev pub last_byte_passes : (ℕ → Bool) → List ℕ → Bool
last_byte_passes test [] = false
last_byte_passes test (b ∷ bs) = test (last_byte b bs)

-- the test that the first and the last byte of a text of this kind pass; another text may begin and
-- end with any byte
abbrev pub edge_passes : TextKind → ((ℕ → Bool) → Bool) → Bool
edge_passes Separator passes = passes is_separator
edge_passes Operator passes = passes is_operator
edge_passes Plain passes = passes is_plain_byte
edge_passes Other passes = true

-- the text begins, or ends, as one of this kind
abbrev pub begins_as : TextKind → List ℕ → Bool
begins_as kind text = edge_passes kind (λ test. first_byte_passes test text)

abbrev pub ends_as : TextKind → List ℕ → Bool
ends_as kind text = edge_passes kind (λ test. last_byte_passes test text)

-- The last token of the first text, which has no line ends that are taken out, is a number that
-- goes on with the first byte of the second.
abbrev pub last_number_goes_on : List ℕ → List ℕ → Bool
last_number_goes_on (b ∷ bs) (c ∷ next) =
    is_number (last_element [] (elements_from 0 (b ∷ bs))) && number_goes_on (last_byte b bs) c
last_number_goes_on text next = false
