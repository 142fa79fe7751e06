-- How a C compiler reads a text as tokens: the next token is the longest sequence of characters
-- that could constitute a preprocessing token (C23, 6.4).
use Rattle.std.specs.Prelude.{ℕ, ◌+◌, ◌-◌, zero, suc, Bool, ◌==◌, nat_lt, ◌&&◌}
use Rattle.std.specs.Prelude.{if◌then◌else◌, List, [], ◌∷◌, ◌++◌, take, filter}
use Rattle.std.specs.List.{list_any}
use Rattle.c_tokens.specs.Bytes.{line_feed, space, backslash}
use Rattle.c_tokens.specs.Grammar.{is_token, is_comment, is_element}

-- Each backslash with a line feed directly after it is taken out first. (Trigraphs are not
-- replaced, as they are not by gcc.)
abbrev pub spliced : List ℕ → List ℕ
spliced [] = []
spliced (b ∷ []) = b ∷ []
spliced (b ∷ c ∷ bs) = if b == backslash && c == line_feed then spliced bs else b ∷ spliced (c ∷ bs)

-- the number of bytes of the longest front of the text that passes the test, or 0
abbrev pub longest : (List ℕ → Bool) → List ℕ → ℕ
longest test [] = 0
longest test (b ∷ bs) =
    let more : ℕ = longest (λ text. test (b ∷ text)) bs in
    if nat_lt 0 more then more + 1 else if test (b ∷ []) then 1 else 0

-- The white-space characters, comments and tokens of a text, each the longest that can be at its
-- place. `passed`: as many bytes at the front belong to an element before them.
abbrev pub elements_from : ℕ → List ℕ → List (List ℕ)
elements_from passed [] = []
elements_from (suc passed) (b ∷ bs) = elements_from passed bs
elements_from zero (b ∷ bs) =
    take (longest is_element (b ∷ bs)) (b ∷ bs)
    ∷ elements_from (longest is_element (b ∷ bs) - 1) bs

abbrev pub elements : List ℕ → List (List ℕ)
elements text = elements_from 0 (spliced text)

-- the preprocessing tokens of a text
abbrev pub tokens : List ℕ → List (List ℕ)
tokens text = filter is_token (elements text)

-- The text ends in a comment that is still open: it would go on with the next byte, as a space.
abbrev pub ends_in_comment : List ℕ → Bool
ends_in_comment text = list_any (λ element. is_comment (element ++ space ∷ [])) (elements text)
