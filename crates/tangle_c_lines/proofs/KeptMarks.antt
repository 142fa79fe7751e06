-- No line mark of a piece is directly after a backslash, which would take out the mark's line feed.
use Rattle.tangle_c_tokens.proofs.FeedLemmas.{kept-last}
use Rattle.tangle_c_tokens.proofs.TextLemmas.{is_kept}
use Rattle.std.proofs.Common.{rules, arith}
use Rattle.std.proofs.lemmas.Bool.Decides.{nat_tests}
use Rattle.std.proofs.Common.{◌≡◌, ℕ, Bool, true, false, ◌||◌, if◌then◌else◌, List, [], ◌∷◌, ◌++◌, flat_map}
use Rattle.std.proofs.Common.{append_assoc, append-nil, refl, ap, sym, ◌∙◌, subst}
use Rattle.std.specs.List.{AllByRecursion, list_all}
use Rattle.std.proofs.lemmas.Bool.{and_parts, false≢true, or_left}
use Rattle.c_tokens.specs.Bytes.{space, line_feed}
use Rattle.tangle_lines.specs.declared.origin.Origin.{Origin}
use Rattle.tangle_lines.specs.Reading.{SourceLine}
use Rattle.tangle_lexer.specs.declared.tokens.Token.{Token}
use Rattle.tangle_scan.specs.declared.items.Item.{Item}
use Rattle.tangle_scan.specs.declared.items.Item.TheVariants as item
use Rattle.tangle_scan.specs.ItemBytes.{bytes_in, piece_item_bytes}
use Rattle.tangle_scan.specs.Rules.{texts_of, part_tokens, part_items}
use Rattle.tangle_c_tokens.proofs.OneLineLemmas.{AreOnLine}
use Rattle.tangle_c_tokens.specs.Groups.{Group}
use Rattle.tangle_c_tokens.specs.Pieces.{Passage, OfPart, OfMark, mark_place, row_after, IsWholePart}
use Rattle.tangle_c_tokens.proofs.LayoutLemmas.{is_inner, is_mark, IsUseItem, OfUse, OfMacros, IsPart, piece-lays}

-- the bytes of a line after a line feed, which ends the line or is taken out
abbrev pub after_feed : List ℕ → List ℕ
after_feed so_far = if is_kept so_far then [] else so_far ++ line_feed ∷ []

-- No mark of these items takes its line feed from a backslash before it. `so_far`: the bytes of the
-- line before them, since the last use if that is on the line.
abbrev pub MarksAreKept : List (List ℕ) → List ℕ → List Item → Type 0
MarksAreKept texts so_far [] = Unit {0}
MarksAreKept texts so_far (item.LineMark origin ∷ items) = (is_kept so_far ≡ true) × MarksAreKept texts [] items
MarksAreKept texts so_far (item.LineEnd ∷ items) = MarksAreKept texts (after_feed so_far) items
MarksAreKept texts so_far (item.UseOf occurrence ∷ items) = MarksAreKept texts [] items
MarksAreKept texts so_far (item.AllMacros ∷ items) = MarksAreKept texts [] items
MarksAreKept texts so_far (x ∷ items) = MarksAreKept texts (so_far ++ bytes_in texts x) items

-- a part that is whole, or a mark
abbrev pub IsWholeText : List (List ℕ) → (ℕ → List ℕ) → List ℕ → Passage → Type 0
IsWholeText texts used macros (OfPart part) = IsWholePart texts used macros part
IsWholeText texts used macros (OfMark origin) = Unit {0}

-- a line that ends as a text does, if the text has bytes
abbrev EndsAs : List ℕ → List ℕ → Type 0
EndsAs so_far t = is_kept t ≡ true → is_kept so_far ≡ true

ends-more : (so_far t b : List ℕ) → EndsAs so_far t → EndsAs (so_far ++ b) (t ++ b)
ends-more so_far t [] ends kept = ap is_kept (append-nil so_far) ∙ ends (ap is_kept (sym (append-nil t)) ∙ kept)
ends-more so_far t (c ∷ b) ends kept = kept-last so_far c b ∙ sym (kept-last t c b) ∙ kept

-- a line feed takes out none after it
pub feed-kept : (so_far : List ℕ) → is_kept (after_feed so_far) ≡ true
feed-kept so_far = grind (arith, nat_tests, kept-last so_far line_feed [])

module _ (lines : List SourceLine) (used : ℕ → List ℕ) (macros : List ℕ) where
  abbrev texts : List (List ℕ)
  texts = texts_of lines

  abbrev none : Origin → List ℕ
  none origin = []

  abbrev own_bytes : List Item → List ℕ
  own_bytes own = flat_map (piece_item_bytes texts used none macros) own

  abbrev AreWhole : List Passage → Type 0
  AreWhole row = AllByRecursion (IsWholeText texts used macros) row

  -- the first of these items is within a part, or a mark
  abbrev is_within : List Item → Bool
  is_within [] = false
  is_within (x ∷ xs) = is_inner x || is_mark x

  -- after a line so far that takes out no line feed, unless white space or a use is next
  abbrev AreKept : List Passage → List Item → Type 0
  AreKept row xs =
      AreWhole row → (so_far : List ℕ) → (is_within xs ≡ true → is_kept so_far ≡ true) → MarksAreKept texts so_far xs

  -- the items of a part, which so far has the text `t`
  own-kept : (own xs : List Item) (so_far t : List ℕ) → list_all is_inner own ≡ true → EndsAs so_far t
      → ((line : List ℕ) → EndsAs line (t ++ own_bytes own) → MarksAreKept texts line xs) → MarksAreKept texts so_far (own ++ xs)
  own-kept [] xs so_far t inner ends next = next so_far (subst (EndsAs so_far) (sym (append-nil t)) ends)
  own-kept (item.LineEnd ∷ own) xs so_far t inner ends next =
      search (rules, own-kept own xs (after_feed so_far) (t ++ line_feed ∷ []), feed-kept, append_assoc)
  own-kept (x ∷ own) xs so_far t inner ends next =
      let more = own-kept own xs (so_far ++ bytes_in texts x) (t ++ bytes_in texts x) in
      search (rules, false≢true, ends-more, append_assoc)

  part-kept : (part : Group) (own : List Item) (row : List Passage) (xs : List Item) → IsPart lines used none macros part own xs
      → AreKept row xs → AreKept (OfPart part ∷ row) (own ++ xs)
  part-kept part [] row xs is next whole so_far kept = next whole.1 so_far kept
  part-kept part (x ∷ own) row xs is next whole so_far kept =
      own-kept (x ∷ own) xs so_far [] is.items.inner (λ none. kept (or_left (is_inner x) (is_mark x) (and_parts (is_inner x) (list_all is_inner own) is.items.inner).0))
      (λ line last. next whole.1 line (λ on. last (ap is_kept is.items.bytes
      ∙ whole.0.kept (search (rules, is.meets)))))

  use-kept : (e : Token) (x : Item) (es : List Token) (origin : Origin) (row : List Passage) (xs : List Item)
      → IsUseItem e x → AreKept row (item.LineMark origin ∷ xs)
      → AreKept (OfPart (record { items = e ∷ []; rest = es }) ∷ row) (x ∷ item.LineMark origin ∷ xs)
  use-kept e x es origin row xs (OfUse line occurrence) next whole so_far kept = next whole.1 [] (λ on. refl)
  use-kept e x es origin row xs (OfMacros line) next whole so_far kept = next whole.1 [] (λ on. refl)

  -- the marks of a piece, if its row is whole
  pub marks-kept : (line : ℕ) (es : List Token) → AreOnLine texts false (part_tokens texts es)
      → AreWhole (row_after texts [] (flat_map mark_place (part_items lines line es)) (part_tokens texts es))
      → MarksAreKept texts [] (part_items lines line es)
  marks-kept line es on whole =
      piece-lays lines used none macros AreKept (λ whole so_far kept. tt)
      (λ row xs next whole so_far kept. next whole (so_far ++ space ∷ []) (λ on. kept-last so_far space []))
      (λ row xs next whole so_far kept. next whole (after_feed so_far) (λ on. feed-kept so_far))
      (λ origin row xs next whole so_far kept. (kept refl, next whole.1 [] (λ on. refl)))
      use-kept part-kept line es on whole [] (λ on. refl)
