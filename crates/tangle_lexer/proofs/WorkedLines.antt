-- Worked C parts: which of their lines of C are directives, and which tokens have the fault UseInDirective.
use Rattle.std.proofs.Common.{◌≡◌, ℕ, Bool, true, false, List, [], ◌∷◌, map, refl, codes}
use Rattle.tangle_lines.specs.Reading.{SourceLine}
use Rattle.tangle_lexer.specs.declared.tokens.Token.{Token}
use Rattle.tangle_lexer.specs.declared.tokens.Token.TheVariants as token
use Rattle.tangle_lexer.specs.Steps.{lexeme, tokens_from, all_tokens}
use Rattle.tangle_lexer.specs.LinesOfParts.{is_directive, lines_of_c, c_parts, with_use_fault}

abbrev pub source : List (List ℕ) → List SourceLine
source texts = map (λ bytes. record { bytes = bytes; origin = record { file = 0; line = 1 }; changed = false }) texts

-- for each C part, and each of its lines of C, whether the line is a directive
abbrev directives : List (List ℕ) → List (List Bool)
directives texts =
    map (λ part. map (is_directive texts) (lines_of_c texts [] part)) (c_parts (all_tokens (source texts)))

abbrev faulty : List (List ℕ) → List (List Token)
faulty texts = map with_use_fault (c_parts (all_tokens (source texts)))

-- the line of @c; four lines of C from #if on, of which the first two are directives over two lines; x and y, which a
-- comment keeps apart; an inclusion over three lines; z; and what is after it, which is nothing
over_lines :
    directives (codes "@ A." ∷ codes "@c" ∷ codes "#if a /* one" ∷ codes "two */ && b" ∷ codes "#define M a@^x"
    ∷ codes "y@> b \\" ∷ codes "  c" ∷ codes "#endif" ∷ codes "x /* c" ∷ codes "d */ y" ∷ codes "#/* e"
    ∷ codes "f */include/* g" ∷ codes "h */<p\"q>" ∷ codes "z" ∷ [])
    ≡ (false ∷ true ∷ true ∷ true ∷ false ∷ false ∷ true ∷ false ∷ false ∷ []) ∷ []
unfolding lexeme tokens_from
over_lines = refl

-- joins remove the line ends on both sides: # belongs to the line of x, and e to the directive before it
joined :
    directives (codes "@ A." ∷ codes "@c x" ∷ codes "@& # y" ∷ codes "#d" ∷ codes "@&" ∷ codes "e" ∷ codes "f" ∷ [])
    ≡ (false ∷ true ∷ false ∷ false ∷ []) ∷ []
unfolding lexeme tokens_from
joined = refl

-- the first use ends the directive, so that the second is on a line of its own; @h ends a directive too
uses :
    faulty (codes "@ A." ∷ codes "@c" ∷ codes "#if \\" ∷ codes "@<v@> @<v@>" ∷ codes "# @h # x" ∷ codes "@<v@>" ∷ [])
    ≡ (token.UseOf 3 0 ∷ token.AllMacros 4 ∷ []) ∷ []
unfolding lexeme tokens_from
uses = refl
