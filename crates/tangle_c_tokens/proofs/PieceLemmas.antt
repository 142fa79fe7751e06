-- The tokens of the bytes of a piece are those of its row.
use Rattle.std.proofs.Common.{arith}
use Rattle.std.proofs.Common.{◌≡◌, ℕ, true, false, ◌==◌, List, [], ◌∷◌, ◌++◌, map, flat_map}
use Rattle.std.proofs.Common.{append-nil, append_assoc, refl}
use Rattle.std.specs.List.{AllByRecursion, list_all}
use Rattle.std.proofs.lemmas.Bool.Decides.{nat_tests}
use Rattle.std.proofs.lemmas.List.Concat.{flat_map-append}
use Rattle.c_tokens.specs.Bytes.{space, line_feed, slash}
use Rattle.c_tokens.specs.Reading.{spliced}
use Rattle.c_tokens.specs.Borders.{is_whole}
use Rattle.tangle_lines.specs.declared.origin.Origin.{Origin}
use Rattle.tangle_lines.specs.Reading.{SourceRead}
use Rattle.tangle_lexer.specs.declared.tokens.Token.{Token}
use Rattle.tangle_scan.specs.declared.items.Item.{Item}
use Rattle.tangle_scan.specs.declared.items.Item.TheVariants as item
use Rattle.tangle_scan.specs.Rules.{texts_of, part_tokens, part_items}
use Rattle.tangle_scan.specs.ItemBytes.{piece_item_bytes}
use Rattle.tangle_c_tokens.specs.Edges.{last_byte_passes}
use Rattle.tangle_c_tokens.specs.Files.{IsWholePassage, MacrosAreReadAlone}
use Rattle.tangle_c_tokens.specs.Groups.{Group}
use Rattle.tangle_c_tokens.specs.Reading.{IsReadAsTexts}
use Rattle.tangle_c_tokens.specs.Pieces.{Passage, OfPart, OfMark, IsWholePart, mark_place, row_after, part_text, passage_text}
use Rattle.tangle_c_tokens.proofs.LayoutLemmas.{IsUseItem, OfUse, OfMacros, AreItems, Meets, is_item, piece-lays}
use Rattle.tangle_c_tokens.proofs.ListLemmas.{all-back}
use Rattle.tangle_c_tokens.proofs.OneLineLemmas.{AreOnLine}
use Rattle.tangle_c_tokens.proofs.TextLemmas.{IsMarkText, IsWholeLine, Follows, space-apart, space-front, feed-apart, feed-front, mark-between}
use Rattle.c_lines.specs.JoinedLines.{LinesAreWhole}
use Rattle.c_lines.proofs.JoinedLemmas.{IsOneLine, lines-one}

-- what is written for a use is a whole line
abbrev pub IsWholeUse : (ℕ → List ℕ) → Item → Type 0
IsWholeUse used (item.UseOf occurrence) = IsWholeLine (used occurrence)
IsWholeUse used x = Unit {0}

-- `tail` is written after the piece, and read as the texts `ts`.
module _ (source : SourceRead) (used : ℕ → List ℕ) (mark : Origin → List ℕ) (macros : List ℕ)
    (marks : (origin : Origin) → IsMarkText (mark origin))
    (macros_whole : MacrosAreReadAlone source → IsWholeLine macros)
    (tail : List ℕ) (ts : List (List ℕ)) (tail_read : IsReadAsTexts ts tail)
    (closes : (t : List ℕ) → is_whole t ≡ true → IsOneLine t → last_byte_passes (λ b. b == slash) (spliced t) ≡ false
    → Follows (t ∷ []) tail (t ++ tail)) where
  abbrev texts : List (List ℕ)
  texts = texts_of source.lines

  abbrev item_bytes : Item → List ℕ
  item_bytes x = piece_item_bytes texts used mark macros x

  abbrev text : List Token → List ℕ
  text items = part_text texts used macros items

  abbrev texts_in : List Passage → List (List ℕ)
  texts_in row = map (passage_text texts used macros mark) row ++ ts

  -- the bytes of items and of what is written after the piece
  abbrev bytes_of : List Item → List ℕ
  bytes_of xs = flat_map item_bytes xs ++ tail

  -- the items are read as the row, if that is whole, and what is written for uses
  abbrev RowReads : List Passage → List Item → Type 0
  RowReads row xs =
      AllByRecursion (IsWholePassage source) row → AllByRecursion (IsWholeUse used) xs
      → IsReadAsTexts (texts_in row) (bytes_of xs)

  mark-reads : (origin : Origin) (row : List Passage) (xs : List Item) → RowReads row xs
      → RowReads (OfMark origin ∷ row) (item.LineMark origin ∷ xs)
  mark-reads origin row xs read whole uses =
      rw (append_assoc (line_feed ∷ mark origin) (flat_map item_bytes xs) tail)
      (feed-front (mark origin ++ bytes_of xs) _
      (mark-between (mark origin) (bytes_of xs) (marks origin) (texts_in row)
      (read whole.1 uses.1)))

  -- a part is whole whatever is written for uses, which it does not have

  same-text : (items : List Token) → list_all is_item items ≡ true
      → part_text texts (λ occurrence. []) [] items ≡ text items
  same-text [] are = refl
  same-text (e ∷ items) are = grind (arith, nat_tests, same-text items)

  follows : (part : Group) (own xs : List Item) → AreItems source.lines used mark macros part.items own
      → IsWholePart texts (λ occurrence. []) [] part → Meets source.lines used mark macros part xs
      → Follows (text part.items ∷ []) (bytes_of xs) (text part.items ++ bytes_of xs)
  follows part own xs is bare =
      let whole : IsWholePart texts used macros part = grind (arith, nat_tests, same-text part.items is.are) in
      by xs whole (lines-one (text part.items) whole.whole is.one)
    where
      by : (xs : List Item) → IsWholePart texts used macros part → LinesAreWhole (text part.items)
          → Meets source.lines used mark macros part xs
          → Follows (text part.items ∷ []) (bytes_of xs) (text part.items ++ bytes_of xs)
      by [] whole lines meets = closes _ whole.whole is.one (whole.ended meets.0 meets.1)
      by (item.Blank ∷ xs) whole lines meets = space-apart _ _ whole.whole is.one
      by (item.UseOf occurrence ∷ xs) whole lines meets = space-apart _ _ whole.whole is.one
      by (item.LineEnd ∷ xs) whole lines meets = feed-apart _ _ lines (whole.kept meets)
      by (item.LineMark origin ∷ xs) whole lines meets = feed-apart _ _ lines (whole.kept meets)
      by (item.AllMacros ∷ xs) whole lines meets = feed-apart _ _ lines (whole.kept meets)
      by (x ∷ xs) whole lines meets = absurd meets

  -- a part, and white space before it
  part-reads : (white : List ℕ) (part : Group) (own : List Item) (row : List Passage) (xs : List Item)
      → ((rest : List ℕ) → Follows [] rest (white ++ rest)) → flat_map item_bytes own ≡ white ++ text part.items
      → Follows (text part.items ∷ []) (bytes_of xs) (text part.items ++ bytes_of xs)
      → IsReadAsTexts (texts_in row) (bytes_of xs)
      → IsReadAsTexts (texts_in (OfPart part ∷ row)) (bytes_of (own ++ xs))
  part-reads white part own row xs front same follow read =
      rw (flat_map-append item_bytes own xs, same, append_assoc (white ++ text part.items), append_assoc white (text part.items))
      (front (text part.items ++ bytes_of xs) _ (follow (texts_in row) read))

  use-reads : (e : Token) (x : Item) (es : List Token) (origin : Origin) (row : List Passage) (xs : List Item)
      → IsUseItem e x → RowReads row (item.LineMark origin ∷ xs)
      → RowReads (OfPart (record { items = e ∷ []; rest = es }) ∷ row) (x ∷ item.LineMark origin ∷ xs)
  use-reads e x es origin row xs (OfUse line occurrence) read whole uses =
      let line : IsWholeLine (used occurrence ++ []) = rw append-nil uses.0 in
      part-reads (space ∷ []) (record { items = e ∷ []; rest = es }) (item.UseOf occurrence ∷ []) row
      (item.LineMark origin ∷ xs) space-front refl
      (feed-apart _ _ line.lines line.kept) (read whole.1 uses.1)
  use-reads e x es origin row xs (OfMacros line) read whole uses =
      let line : IsWholeLine (macros ++ []) = rw append-nil (macros_whole (whole.0.1 refl)) in
      part-reads (line_feed ∷ []) (record { items = e ∷ []; rest = es }) (item.AllMacros ∷ []) row
      (item.LineMark origin ∷ xs) feed-front refl
      (feed-apart _ _ line.lines line.kept) (read whole.1 uses.1)

  pub piece-by-parts : (line : ℕ) (es : List Token) → AreOnLine texts false (part_tokens texts es)
      → RowReads (row_after texts [] (flat_map mark_place (part_items source.lines line es)) (part_tokens texts es))
      (part_items source.lines line es)
  piece-by-parts =
      piece-lays source.lines used mark macros RowReads (λ whole uses. tail_read)
      (λ row xs read whole uses. space-front (bytes_of xs) _ (read whole uses.1))
      (λ row xs read whole uses. feed-front (bytes_of xs) _ (read whole uses.1))
      mark-reads use-reads
      (λ part own row xs is read whole uses. part-reads [] part own row xs (λ rest ts read. read) is.items.bytes
      (follows part own xs is.items whole.0.0 is.meets) (read whole.1 (all-back (IsWholeUse used) own xs uses)))
