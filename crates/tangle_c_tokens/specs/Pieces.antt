-- The tokens that a C compiler reads of a piece are those of its parts, which are groups of items and
-- what is written for its uses, and of its line marks.
use Rattle.std.specs.Prelude.{◌≡◌, ℕ, Bool, true, false, ◌&&◌, ◌||◌, List, [], ◌∷◌, ◌++◌, map}
use Rattle.std.specs.Prelude.{drop, flat_map, get_or, if◌then◌else◌, not, ◌==◌, Option, None, Some}
use Rattle.std.specs.List.{last_or, list_all}
use Rattle.c_tokens.specs.Bytes.{line_feed, slash}
use Rattle.c_tokens.specs.Reading.{spliced}
use Rattle.c_tokens.specs.Borders.{is_whole, keep_lines}
use Rattle.tangle_lines.specs.declared.origin.Origin.{Origin}
use Rattle.tangle_lexer.specs.declared.tokens.Token.{Token}
use Rattle.tangle_lexer.specs.declared.tokens.Token.TheVariants as token
use Rattle.tangle_lexer.specs.LinesOfParts.{is_use}
use Rattle.tangle_scan.specs.declared.items.Item.{Item}
use Rattle.tangle_scan.specs.declared.items.Item.TheVariants as item
use Rattle.tangle_scan.specs.Rules.{is_continued, is_open, ends_line, next_item}
use Rattle.tangle_scan.specs.ReadAsMeant.{token_bytes}
use Rattle.tangle_scan.specs.Web.{PieceRead}
use Rattle.tangle_c_tokens.specs.Edges.{last_byte_passes}
use Rattle.tangle_c_tokens.specs.Groups.{Group, group_before}

abbrev pub begins_with_macros : List Token → Bool
begins_with_macros (token.AllMacros line ∷ es) = true
begins_with_macros es = false

-- A row of what is read: of parts, which are groups of items, or a use or @h by itself, and of line
-- marks between them.
pub data Passage : Type 0 where
  OfPart : Group → Passage
  OfMark : Origin → Passage

-- A mark can be at each line end of a C part, and after each use and @h. In each of these places the
-- rules for items leave one of two items: a line end, where no mark is, or the mark.
abbrev pub mark_place : Item → List (List Origin)
mark_place item.LineEnd = [] ∷ []
mark_place (item.LineMark origin) = (origin ∷ []) ∷ []
mark_place x = []

-- The row of these tokens: their groups of items, which white space and line ends keep apart, their
-- uses and @h, and the marks in their places. A line end that the author continues, with a backslash
-- directly before it, white space aside, is an item of its group: the compiler takes out both.
-- `items` are those of the first group before these tokens, and `marks` has their places.
module _ (texts : List (List ℕ)) where
  abbrev pub row_after : List Token → List (List Origin) → List Token → List Passage
  row_after items marks [] = map OfPart (group_before [] items)
  row_after items marks (token.White ∷ es) =
      if is_continued texts (last_or None items) && ends_line es then row_after items marks es
      else map OfPart (group_before (token.White ∷ es) items) ++ row_after [] marks es
  row_after items marks (token.LineEnd line ∷ es) =
      if is_continued texts (last_or None items)
      then row_after (items ++ token.LineEnd line ∷ []) (drop 1 marks) es
      else map OfPart (group_before (token.LineEnd line ∷ es) items)
      ++ (map OfMark (get_or marks 0 []) ++ row_after [] (drop 1 marks) es)
  row_after items marks (e ∷ es) =
      if is_use e
      then map OfPart (group_before (e ∷ es) items)
      ++ OfPart (record { items = e ∷ []; rest = es })
      ∷ (map OfMark (get_or marks 0 []) ++ row_after [] (drop 1 marks) es)
      else row_after (items ++ e ∷ []) marks es

  -- the row of a piece with these tokens, which begins with the mark of the opening
  abbrev pub row_of_piece : PieceRead → List Token → List Passage
  row_of_piece piece es =
      OfMark piece.origin ∷ row_after [] (flat_map mark_place piece.items) es

module _ (texts : List (List ℕ)) (used : ℕ → List ℕ) (macros : List ℕ) where
  -- what is written for an item, a use or @h
  abbrev pub written_for : Token → List ℕ
  written_for (token.UseOf line occurrence) = used occurrence
  written_for (token.AllMacros line) = macros
  written_for (token.LineEnd line) = line_feed ∷ []
  written_for _ = []

  abbrev pub part_text : List Token → List ℕ
  part_text items = flat_map (token_bytes texts written_for) items

  abbrev pub passage_text : (Origin → List ℕ) → Passage → List ℕ
  passage_text mark (OfPart part) = part_text part.items
  passage_text mark (OfMark origin) = mark origin

  -- a line feed is written directly after this part
  abbrev pub line_feed_follows : Group → Bool
  line_feed_follows part =
      list_all is_use part.items || ends_line part.rest || begins_with_macros part.rest

  -- the last item of a part is no use, and no blank is written after it at the end of a piece
  abbrev pub is_closed : Option Token → Bool
  is_closed None = false
  is_closed (Some e) = not (is_use e) && not (is_open texts (Some e))

  -- The comments and quoted texts of a part are all ended, a backslash at its end takes out no line
  -- feed, and a slash at its end is no part of the closing mark.
  pub record IsWholePart (part : Group) : Type 0 where
    pub whole : is_whole (part_text part.items) ≡ true
    pub kept : line_feed_follows part ≡ true
        → keep_lines (part_text part.items) (line_feed ∷ []) ≡ true
    pub ended : next_item part.rest ≡ None → is_closed (last_or None part.items) ≡ true
        → last_byte_passes (λ b. b == slash) (spliced (part_text part.items)) ≡ false
