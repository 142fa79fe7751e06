-- Plain forms of file names: two names of the same plain form are names of the same file.
use Rattle.std.specs.Prelude.{ℕ, Bool, not, ◌&&◌, ◌==◌, nat_eq, List, [], ◌++◌, filter, codes}
use Rattle.std.specs.Prelude.{if◌then◌else◌}
use Rattle.std.specs.List.{join_with_byte, slice_split, starts_with}
use Rattle.std.specs.Str.{bytes_eq}

abbrev pub slash : ℕ
slash = 47

-- the parts of a file name, which slashes separate
abbrev pub parts : List ℕ → List (List ℕ)
parts name = slice_split (λ b. b == slash) name

-- a part that a plain form has: it is not empty, and more than a single full stop
abbrev pub is_plain_part : List ℕ → Bool
is_plain_part part = not (bytes_eq part []) && not (bytes_eq part (codes "."))

-- the slash at the front of a file name, if there is one
abbrev pub front_slash : List ℕ → List ℕ
front_slash name = if starts_with nat_eq name (codes "/") then codes "/" else []

-- The plain form of a file name: what is left without the parts that are empty or a single full
-- stop. A slash at the front stays, and so does each part of two full stops.
unfoldable pub plain_form : List ℕ → List ℕ
plain_form name =
    front_slash name ++ join_with_byte slash (filter is_plain_part (parts name))
