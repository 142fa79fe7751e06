-- The name that a line includes.
use Rattle.std.specs.Prelude.{ℕ, ◌==◌, ◌&&◌, ◌||◌, not, drop, List, [], ◌∷◌, if◌then◌else◌}
use Rattle.std.specs.Prelude.{Option, None, Some}
use Rattle.std.specs.List.{before_first, position_or_len}
use Rattle.tangle_lines.specs.Bytes.{at_sign, double_quote, letter_i, is_white, is_letter}

-- the bytes from the first one on that isn't white space
abbrev pub after_white : List ℕ → List ℕ
after_white bytes = drop (position_or_len (λ b. not (is_white b)) bytes) bytes

-- the name in the bytes after `@i` and white space: up to the next quote if it begins with one,
-- else up to white space or a quote
-- A quoted name without its end is most likely the rest of the line.
abbrev pub name_in : List ℕ → List ℕ
name_in [] = []
name_in (b ∷ bs) =
    if b == double_quote then before_first (λ c. c == double_quote) bs
    else before_first (λ c. is_white c || (c == double_quote)) (b ∷ bs)

-- the name of an inclusion, which may be empty; other lines have none
-- The third byte of the line does not count: a rule without exceptions is easier to remember.
abbrev pub included_name : List ℕ → Option (List ℕ)
included_name [] = None
included_name (a ∷ []) = None
included_name (a ∷ b ∷ bs) =
    if (a == at_sign) && is_letter letter_i b then Some (name_in (after_white bs)) else None
