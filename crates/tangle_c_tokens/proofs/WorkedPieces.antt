-- Pieces of which C reads the tokens of the row, and one for each premise that reads otherwise
-- without it.
use Rattle.std.proofs.Common.{◌≡◌, ℕ, ◌+◌, true, false, List, [], ◌∷◌, ◌++◌, map, flat_map, codes, rules}
use Prim.Native.String.{String}
use Rattle.c_tokens.specs.Grammar.{is_element, is_token, is_punctuator}
use Rattle.c_tokens.specs.Reading.{tokens}
use Rattle.c_tokens.specs.Borders.{is_whole, keep_lines}
use Rattle.c_tokens.specs.Bytes.{line_feed}
use Rattle.tangle_lines.specs.declared.origin.Origin.{Origin}
use Rattle.tangle_lines.specs.Reading.{SourceLine}
use Rattle.tangle_lexer.specs.declared.tokens.Token.{Token}
use Rattle.tangle_lexer.specs.declared.tokens.Token.TheVariants as token
use Rattle.tangle_scan.specs.Rules.{texts_of, part_tokens, part_items}
use Rattle.tangle_scan.specs.ItemBytes.{piece_item_bytes}
use Rattle.tangle_c_tokens.specs.Pieces.{mark_place, passage_text, row_after}
use Rattle.tangle_c_tokens.proofs.WorkedMacros.{text, word, sign, line_end, words}

-- The second line has another origin than a compiler counts, so a mark is before it.
abbrev lines : List SourceLine
lines =
    record { bytes = text; origin = record { file = 0; line = 1 }; changed = false }
    ∷ record { bytes = []; origin = record { file = 0; line = 5 }; changed = true } ∷ []

abbrev use_of_name : Token
use_of_name = token.UseOf 0 0

-- the bytes of a piece and the texts of its row, if these are written for uses and for marks after
-- their first line feed
module _ (used : List ℕ) (mark : Origin → List ℕ) where
  abbrev bytes : List Token → List ℕ
  bytes es =
      flat_map (piece_item_bytes (texts_of lines) (λ occurrence. used) mark []) (part_items lines 0 es)

  abbrev texts : List Token → List (List ℕ)
  texts es =
      map (passage_text (texts_of lines) (λ occurrence. used) [] mark)
      (row_after (texts_of lines) [] (flat_map mark_place (part_items lines 0 es))
      (part_tokens (texts_of lines) es))

  -- C reads these words of the piece, and these of its row
  abbrev AreRead : List Token → String → String → Type 0
  AreRead es read of_row = (tokens (bytes es) ≡ words read) × (flat_map tokens (texts es) ≡ words of_row)

abbrev line_mark : Origin → List ℕ
line_mark origin = codes "#line " ++ (origin.line + 48) ∷ codes " \"a.w\"\n"

abbrev no_mark : Origin → List ℕ
no_mark origin = []

abbrev whole : List Token
whole =
    word "els" ∷ sign "\\" ∷ token.White ∷ line_end ∷ word "e" ∷ use_of_name ∷ line_end ∷ word "x" ∷ []

abbrev comment : List Token
comment = sign "/" ∷ sign "*" ∷ line_end ∷ word "x" ∷ []

worked :
    -- A word over two lines of which the first is continued, a use, and a word after a line end.
    (bytes (codes "y+z") line_mark whole ≡ codes "els\\\ne y+z\n#line 1 \"a.w\"\n\n#line 5 \"a.w\"\nx") ×
    (texts (codes "y+z") line_mark whole
    ≡ codes "els\\\ne" ∷ codes "y+z" ∷ codes "#line 1 \"a.w\"\n" ∷ codes "#line 5 \"a.w\"\n" ∷ codes "x" ∷ []) ×
    AreRead (codes "y+z") line_mark whole
    "else y + z # line 1 \"a.w\" # line 5 \"a.w\" x" "else y + z # line 1 \"a.w\" # line 5 \"a.w\" x" ×
    -- A group that opens a comment.
    (tokens (bytes [] no_mark comment) ≡ []) ×
    (flat_map tokens (texts [] no_mark comment) ≡ words "x") ×
    (is_whole (codes "/*") ≡ false) ×
    -- What is written for a use ends in a backslash.
    AreRead (codes "y\\") no_mark (use_of_name ∷ word "x" ∷ []) "yx" "y \\ x" ×
    (keep_lines (codes "y\\") (line_feed ∷ []) ≡ false)
unfolding is_element is_token is_punctuator
worked = search rules
