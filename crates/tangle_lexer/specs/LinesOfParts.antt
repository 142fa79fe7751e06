-- The lines of C of a part, over the list of its tokens, where LinesOfC says the same step by step.
-- `texts` are the bytes of the source lines.
use Rattle.std.specs.Prelude.{◌≡◌, ℕ, Bool, true, false, ◌==◌, ◌&&◌, ◌||◌, not, List, [], ◌∷◌, ◌++◌}
use Rattle.std.specs.Prelude.{filter, flat_map, if◌then◌else◌}
use Rattle.std.specs.List.{list_all, list_any}
use Rattle.tangle_faults.specs.declared.faults.FaultKind.TheVariants as fault
use Rattle.tangle_text.specs.Bytes.{number_sign}
use Rattle.tangle_lexer.specs.declared.tokens.SpanKind.TheVariants as span_kind
use Rattle.tangle_lexer.specs.declared.tokens.Token.{Token}
use Rattle.tangle_lexer.specs.declared.tokens.Token.TheVariants as token
use Rattle.tangle_lexer.specs.Heads.{is_head}
use Rattle.tangle_lexer.specs.Steps.{LexemeStart, lexeme}
use Rattle.tangle_lexer.specs.SpanBytes.{first_byte, ends_in_backslash}

-- the sign #
abbrev pub is_number_sign : List (List ℕ) → Token → Bool
is_number_sign texts (token.Span span_kind.Sign s) = first_byte texts s == number_sign
is_number_sign texts t = false

-- a use or @h, which a line mark follows
abbrev pub is_use : Token → Bool
is_use (token.UseOf line occurrence) = true
is_use (token.AllMacros line) = true
is_use t = false

-- a join, which removes the line ends on both sides of it
abbrev pub is_join : Token → Bool
is_join token.Join = true
is_join t = false

-- white space, or a fault
abbrev pub is_white_space : Token → Bool
is_white_space token.White = true
is_white_space (token.InnerLineEnd line) = true
is_white_space (token.Fault kind line) = true
is_white_space t = false

-- no item, but what may be between two of them
abbrev pub is_between_items : Token → Bool
is_between_items (token.LineEnd line) = true
is_between_items t = is_white_space t || is_join t

-- A line of C is a directive, that is, a line of the preprocessor, if its first item is the sign #.
abbrev pub is_directive : List (List ℕ) → List Token → Bool
is_directive texts [] = false
is_directive texts (t ∷ ts) =
    if is_between_items t then is_directive texts ts else is_number_sign texts t

-- The line is continued after a line end that is next: its last token, white space aside, ends in a
-- backslash.
abbrev pub is_continued_line : List (List ℕ) → List Token → Bool
is_continued_line texts [] = false
is_continued_line texts (t ∷ ts) =
    if list_all is_white_space ts then ends_in_backslash texts t else is_continued_line texts ts

-- a join is after the last item of these tokens
abbrev pub join_behind : List Token → Bool
join_behind [] = false
join_behind (t ∷ ts) = is_join t && list_all is_between_items ts || join_behind ts

-- a join is before the first item of these tokens
abbrev pub join_ahead : List Token → Bool
join_ahead [] = false
join_ahead (t ∷ ts) = is_join t || is_between_items t && join_ahead ts

-- Whether the token after the tokens of a line ends the line, where `after` is what follows. A use
-- and @h do. So does a line end, unless the line is continued there, or a join before it or after it
-- removes it.
abbrev pub ends_line_of_c : List (List ℕ) → List Token → Token → List Token → Bool
ends_line_of_c texts line (token.LineEnd number) after =
    not (join_behind line || is_continued_line texts line) && not (join_ahead after)
ends_line_of_c texts line t after = is_use t

-- The lines of C of a part, each with the token that ends it. `line` is what is before these tokens
-- on the first one.
abbrev pub lines_of_c : List (List ℕ) → List Token → List Token → List (List Token)
lines_of_c texts line [] = line ∷ []
lines_of_c texts line (t ∷ ts) =
    if ends_line_of_c texts line t ts then (line ++ t ∷ []) ∷ lines_of_c texts [] ts
    else lines_of_c texts (line ++ t ∷ []) ts

-- the last of these lines; `before` is the one before them
abbrev pub last_line : List Token → List (List Token) → List Token
last_line before [] = before
last_line before (line ∷ lines) = last_line line lines

-- what is on the line of C that goes on after these tokens of a part
abbrev pub open_line : List (List ℕ) → List Token → List Token
open_line texts part = last_line [] (lines_of_c texts [] part)

-- C parts

-- the tokens before the next head
abbrev pub body : List Token → List Token
body [] = []
body (t ∷ ts) = if is_head t then [] else t ∷ body ts

-- the tokens after the last head
abbrev pub last_body : List Token → List Token
last_body [] = []
last_body (t ∷ ts) = if is_head t || list_any is_head ts then last_body ts else t ∷ ts

-- the tokens of these lexemes
abbrev pub tokens_of : List LexemeStart → List Token
tokens_of starts = flat_map (λ start. (lexeme start.state start.text).tokens) starts

-- a C part begins after this token
abbrev pub begins_c_part : Token → Bool
begins_c_part (token.UnnamedPart line) = true
begins_c_part (token.NamedPart line occurrence) = true
begins_c_part t = false

-- the C parts of a source, each without its head
abbrev pub c_parts : List Token → List (List Token)
c_parts [] = []
c_parts (t ∷ ts) = if begins_c_part t then body ts ∷ c_parts ts else c_parts ts

-- a line end inside a comment or a control text of a directive
abbrev pub is_inner_line_end : Token → Bool
is_inner_line_end (token.InnerLineEnd line) = true
is_inner_line_end t = false

-- a line of C has inner line ends only as a directive
abbrev pub HasInnerEndsAsDirective : List (List ℕ) → List Token → Type 0
HasInnerEndsAsDirective texts line =
    list_any is_inner_line_end line ≡ true → is_directive texts line ≡ true

-- the uses and @h of a line of C, if it is a directive
abbrev pub uses_in_directive : List (List ℕ) → List Token → List Token
uses_in_directive texts line = if is_directive texts line then filter is_use line else []

-- the fault of a use or @h in a directive
abbrev pub is_use_fault : Token → Bool
is_use_fault (token.Fault fault.UseInDirective line) = true
is_use_fault t = false

abbrev pub begins_with_use_fault : List Token → Bool
begins_with_use_fault [] = false
begins_with_use_fault (t ∷ ts) = is_use_fault t

-- the tokens that have the fault UseInDirective, which is directly after its token
abbrev pub with_use_fault : List Token → List Token
with_use_fault [] = []
with_use_fault (t ∷ ts) =
    if begins_with_use_fault ts then t ∷ with_use_fault ts else with_use_fault ts
