-- A web whose program reaches whole pieces, and not one that is open, and what C reads otherwise: a slash at the end of a piece,
-- and a name with a line feed.
use Rattle.std.proofs.Common.{arith}
use Rattle.std.proofs.Common.{◌≡◌, ℕ, ◌+◌, false, List, [], ◌∷◌, ◌++◌, codes, refl, subst, sym}
use Rattle.std.specs.List.{AllByRecursion, Contains}
use Rattle.digraph.specs.Reach.{Reaches, here, on}
use Rattle.c_tokens.specs.Grammar.{is_element, is_token, is_punctuator}
use Rattle.c_tokens.specs.Reading.{tokens}
use Rattle.tangle_lines.specs.Reading.{SourceLine, SourceRead}
use Rattle.tangle_lexer.specs.Steps.{lexeme, occurrences_from, tokens_from}
use Rattle.tangle_bodies.specs.Shapes.{Named, Program, Title, Uses, shape_names}
use Rattle.tangle_c_tokens.specs.Files.{IsWholePassage, MacrosAreReadAlone, ReachesWholePieces, row_of_node, shapes_in}
use Rattle.std.proofs.lemmas.Bool.Decides.{nat_tests}

abbrev pub lines_from : ℕ → List (List ℕ) → List SourceLine
lines_from n [] = []
lines_from n (bytes ∷ texts) =
    record { bytes = bytes; origin = record { file = 0; line = n }; changed = false } ∷ lines_from
    (n + 1) texts

-- a web with a macro over two lines, a use, and a piece that nothing uses, in which a comment is open
abbrev web : List (List ℕ)
web =
    codes "@ A." ∷ codes "@d max(a) (a)+" ∷ codes "\"s\"" ∷ codes "@c int b=max(2);"
    ∷ codes "@<Use@>" ∷ codes "@ B."
    ∷ codes "@<Use@>=" ∷ codes "b/* one */++;"
    ∷ codes "@ C." ∷ codes "@<Other@>=" ∷ codes "@=/*@>" ∷ []

abbrev source : SourceRead
source = record { files = (codes "a.w", web) ∷ []; lines = lines_from 1 web; faults = [] }

macros_alone : MacrosAreReadAlone source
unfolding lexeme tokens_from is_element is_token is_punctuator
macros_alone = grind (arith, nat_tests)

abbrev IsWhole : Title → Type 0
IsWhole node = AllByRecursion (IsWholePassage source) (row_of_node source node)

program_whole : IsWhole Program
unfolding lexeme tokens_from occurrences_from is_element is_token is_punctuator
program_whole = grind (arith, nat_tests, macros_alone)

name_whole : IsWhole (Named (codes "Use"))
unfolding lexeme tokens_from occurrences_from is_element is_token is_punctuator
name_whole = grind (arith, nat_tests, macros_alone)

-- the program reaches no other name
names_used : (shape_names (shapes_in source Program) ≡ codes "Use" ∷ [])
    × (shape_names (shapes_in source (Named (codes "Use"))) ≡ [])
unfolding lexeme tokens_from occurrences_from
names_used = (refl, refl)

name_reaches : ReachesWholePieces source (Named (codes "Use"))
name_reaches other here = name_whole
name_reaches other (on {b = Program} uses onward) = absurd uses
name_reaches other (on {b = Named name} uses onward) =
    let none : Contains [] name = subst (λ names. Contains names name) names_used.1 uses in absurd (omega (arith, none.1))

reaches : ReachesWholePieces source Program
reaches other here = program_whole
reaches other (on {b = Program} uses onward) = absurd uses
reaches other (on {b = Named name} uses onward) =
    let one : Contains (codes "Use" ∷ []) name = subst (λ names. Contains names name) names_used.0 uses in
    let same : codes "Use" ≡ name = grind (arith, one.1, one.2) in
    name_reaches other (subst (λ (name : List ℕ). Reaches (Uses (shapes_in source)) (Named name) other) (sym same) onward)

worked :
    -- The third piece is not whole.
    (IsWhole (Named (codes "Other")) → ⊥) ×
    -- A slash at the end of a piece, directly before the closing mark.
    (tokens (codes "x/" ++ codes "/*:1*/") ≡ codes "x" ∷ []) ×
    (tokens (codes "x/") ≡ codes "x" ∷ codes "/" ∷ []) ×
    -- A file whose name has a line feed in it, and then a comment that is open.
    (tokens (codes "#line 5 \"a\n/*\"\n" ++ codes "x")
    ≡ codes "#" ∷ codes "line" ∷ codes "5" ∷ codes "\"" ∷ codes "a" ∷ []) ×
    (tokens (codes "x") ≡ codes "x" ∷ [])
unfolding lexeme tokens_from occurrences_from is_element is_token is_punctuator
worked = (λ whole. grind (arith, nat_tests), refl, refl, refl, refl)
