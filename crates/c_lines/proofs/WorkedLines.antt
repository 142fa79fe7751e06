-- Texts and their lines of C, typed from the standard.
use Rattle.std.proofs.Common.{rules, ◌≡◌, true, [], ◌∷◌, codes}
use Rattle.std.proofs.lemmas.Bool.{false≢true}
use Rattle.c_tokens.specs.Grammar.{is_element, is_token, is_punctuator}
use Rattle.c_tokens.specs.Borders.{is_whole}
use Rattle.c_lines.specs.JoinedLines.{joined_lines, LinesAreWhole}

worked :
    -- A line feed ends a line, unless a backslash is directly before it.
    (joined_lines [] (codes "a\nb") ≡ codes "a" ∷ codes "b" ∷ []) ×
    (joined_lines [] (codes "a\n") ≡ codes "a" ∷ [] ∷ []) ×
    (joined_lines [] [] ≡ [] ∷ []) ×
    (joined_lines [] (codes "\n\na") ≡ [] ∷ [] ∷ codes "a" ∷ []) ×
    (joined_lines [] (codes "a\\\nb\nc") ≡ codes "a\\\nb" ∷ codes "c" ∷ []) ×
    (joined_lines [] (codes "a\\\nb\n\nc") ≡ codes "a\\\nb" ∷ [] ∷ codes "c" ∷ []) ×
    (joined_lines [] (codes "\\\n\\\n\nb") ≡ codes "\\\n\\\n" ∷ codes "b" ∷ []) ×
    (joined_lines [] (codes "a\\\n\\\n\nb\\") ≡ codes "a\\\n\\\n" ∷ codes "b\\" ∷ []) ×
    (joined_lines [] (codes "a\\\\\nb") ≡ codes "a\\\\\nb" ∷ []) ×
    (joined_lines [] (codes "a\\ \nb") ≡ codes "a\\ " ∷ codes "b" ∷ []) ×
    (joined_lines [] (codes "/*\n*/") ≡ codes "/*" ∷ codes "*/" ∷ []) ×
    -- Lines whose comments and quoted texts are all ended.
    LinesAreWhole (codes "a /* b */\n\"c\\\nd\"\n/\\\n* e *\\\n/") ×
    LinesAreWhole [] ×
    -- A comment over the end of a line is ended in the text, and not in its line.
    (is_whole (codes "a /* b\n*/ c") ≡ true) ×
    (LinesAreWhole (codes "a /* b\n*/ c") → ⊥) ×
    -- A quote that none closes, and a comment that the end of the line would end.
    (LinesAreWhole (codes "\"a\nb\"") → ⊥) ×
    (LinesAreWhole (codes "a // b\nc") → ⊥)
unfolding is_element is_token is_punctuator
worked = search (rules, false≢true)
