-- The lines of a text as a C compiler joins them: a line feed directly after a backslash ends no
-- line.
use Rattle.std.specs.Prelude.{◌≡◌, ℕ, true, ◌==◌, ◌&&◌, if◌then◌else◌, List, [], ◌∷◌, ◌++◌}
use Rattle.std.specs.Prelude.{Some, None}
use Rattle.std.specs.List.{AllByRecursion}
use Rattle.c_tokens.specs.Bytes.{line_feed}
use Rattle.c_tokens.specs.Borders.{keep_lines, is_whole}
use Rattle.c_lines.specs.Counting.{Place, LineOfTokens, next_place, place_after, tokens_at}

-- the lines of a text; `line`: the bytes of the first one that are before the text
abbrev pub joined_lines : List ℕ → List ℕ → List (List ℕ)
joined_lines line [] = line ∷ []
joined_lines line (b ∷ bs) =
    if b == line_feed && keep_lines line (line_feed ∷ []) then line ∷ joined_lines [] bs
    else joined_lines (line ++ b ∷ []) bs

-- no comment and no quoted text goes over the end of a line
abbrev pub LinesAreWhole : List ℕ → Type 0
LinesAreWhole text = AllByRecursion (λ line. is_whole line ≡ true) (joined_lines [] text)

-- The lines of C of these texts, each read by itself. The first begins at this place, and each
-- other one after a line feed.
abbrev pub lines_of_each : Place → List (List ℕ) → List LineOfTokens
lines_of_each place [] = []
lines_of_each place (line ∷ []) = record { tokens = tokens_at place line; end = None } ∷ []
lines_of_each place (line ∷ next ∷ rest) =
    let end : Place = place_after place line in
    record { tokens = tokens_at place line; end = Some end }
    ∷ lines_of_each (next_place end line_feed) (next ∷ rest)
