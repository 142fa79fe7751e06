-- What is stored of a web is what was gathered of it, block by block.
use Rattle.std.proofs.Common.{◌≡◌, ◌<◌, ℕ, ◌||◌, true, false, List, [], ◌∷◌, ◌++◌, map, length}
use Rattle.std.proofs.Common.{None, Option, append-nil, append_assoc, get_or}
use Rattle.std.specs.List.{All, AllZip, list_any}
use Rattle.std.specs.Prelude.{flat_map}
use Rattle.std.proofs.Common.{arith}
use Rattle.std.proofs.lemmas.Bool.Decides.{nat_tests}
use Rattle.std.proofs.lemmas.List.Folds.{list_any-append}
use Rattle.std.proofs.lemmas.List.{map-append}
use Rattle.digraph.specs.Graph.{row_at}
use Rattle.tangle_lexer.specs.LinesOfParts.{body}
use Rattle.tangle_lexer.specs.Heads.{is_head}
use Rattle.tangle_lexer.specs.Runs.{IsRunIn, first_is_alone, unfolded}
use Rattle.tangle_lexer.specs.declared.tokens.Token.{Token}
use Rattle.tangle_lexer.specs.declared.tokens.Token.TheVariants as token
use Rattle.tangle_lines.specs.Reading.{SourceRead, origin_at}
use Rattle.tangle_scan.specs.Rules.{macro_items, part_items, texts_of}
use Rattle.tangle_scan.specs.WellFormed.{IsWellFormed}
use Rattle.std.proofs.lemmas.List.Elements.{All-nil}
use Rattle.std.proofs.lemmas.List.Concat.{flat_map-append}
use Rattle.tangle_scan.specs.Texts.{TextRead, TextsRead, IsTextOf, item_uses, no_text, text_at, with_text}
use Rattle.tangle_scan.specs.Web.{PieceRead, WebRead, is_all_macros, no_piece, token_faults}
use Rattle.tangle_scan.specs.WebBuilder.{AreTextsOf, IsGathered, StoredBuilder, part_head}
use Rattle.tangle_scan.specs.WebBuilder.{with_macro, with_section}
use Rattle.std.proofs.Math.ListN.{get_or-map, get_or-eq_default}
use Rattle.tangle_scan.proofs.lemmas.UnfoldedTokens.{all_macros-unfolded, faults-unfolded, macro_faults-unfolded, unfolded-no_head}
use Rattle.tangle_scan.proofs.lemmas.TextLemmas.{no-items}
use Rattle.tangle_scan.proofs.lemmas.WebBuilderLemmas.{no-head, block-added}

-- a piece is put at the end

zip-push : {X Y : Type 0} (P : X → Y → Type 0) (xs : List X) (ys : List Y) (x : X) (y : Y)
    → AllZip P xs ys → P x y → AllZip P (xs ++ x ∷ []) (ys ++ y ∷ [])
zip-push P [] [] x y h k = search tt
zip-push P (x' ∷ xs) (y' ∷ ys) x y h k = (h.0, zip-push P xs ys x y h.1 k)
zip-push P xs ys x y h k = absurd h

text-pushed : (texts : List (List ℕ)) (pieces : List PieceRead) (stored : TextsRead) (piece : PieceRead) (text : TextRead)
    → AreTextsOf texts pieces stored → IsTextOf texts piece.items text
    → AreTextsOf texts (pieces ++ piece ∷ []) (with_text stored text)
text-pushed texts pieces stored piece text h is = record {
  all = h.all ++ text ∷ [];
  are = zip-push (λ p t. IsTextOf texts p.items t) pieces h.all piece text h.are is;
  rows = rw h.rows (simp map-append);
}

module _ (source : SourceRead) (stored : StoredBuilder) (before tokens : List Token)
    (none : list_any is_head tokens ≡ false) where
  abbrev texts : List (List ℕ)
  texts = texts_of source.lines

  -- the tokens that the runs among these stand for
  abbrev all : List Token
  all = unfolded texts tokens

  plain : list_any is_head all ≡ false
  plain = unfolded-no_head texts tokens none

  pub front-stored : All (IsRunIn texts) tokens → IsGathered source [] stored
      → IsGathered source all
      (record stored { faults = stored.faults ++ token_faults source.files source.lines None tokens })
  front-stored runs h =
      let faults = faults-unfolded source.files source.lines token.White tokens runs in
      grind (arith, nat_tests, plain, no-head source.files source.lines 0, faults, append-nil)

  pub section-stored : All (IsRunIn texts) tokens → IsGathered source before stored
      → IsGathered source (before ++ token.Section ∷ all) (with_section source tokens stored)
  section-stored runs h =
      let same = faults-unfolded source.files source.lines token.White tokens runs in
      grind (arith, nat_tests, plain, block-added source.files source.lines 0, same, append-nil)

  pub macro-stored : (line : ℕ) → All (IsRunIn texts) tokens → first_is_alone tokens ≡ true
      → IsGathered source before stored
      → IsGathered source (before ++ token.MacroStart line ∷ all)
      (with_macro source line tokens (macro_items texts all) stored)
  macro-stored line runs alone h =
      let same = macro_faults-unfolded source.files source.lines tokens runs alone in
      let whole : body all ≡ all = (no-head source.files source.lines 0 all plain).0 in
      let added = block-added source.files source.lines 0 (token.MacroStart line) all before (grind arith) plain in
      grind (arith, nat_tests, whole, added, same, flat_map-append, list_any-append, append-nil, append_assoc)

  pub piece-stored : (occurrence : Option ℕ) (line : ℕ) (text : TextRead) → All (IsRunIn texts) tokens
      → IsTextOf texts (part_items source.lines line all) text → IsGathered source before stored
      → IsGathered source (before ++ part_head line occurrence ∷ all) (record stored {
        pieces = stored.pieces
            ++ record { section = stored.sections; origin = origin_at source.lines line; occurrence = occurrence } ∷ [];
        texts = with_text stored.texts text;
        has_all_macros = stored.has_all_macros || list_any is_all_macros tokens;
        faults = stored.faults ++ token_faults source.files source.lines None tokens;
      })
  piece-stored x line text runs is h =
      let same = faults-unfolded source.files source.lines token.White tokens runs in
      let macros = all_macros-unfolded texts tokens in
      let whole : body all ≡ all = (no-head source.files source.lines 0 all plain).0 in
      let added = block-added source.files source.lines 0 (part_head line x) all before (grind arith) plain in
      grind (arith, nat_tests, plain, whole, added, same, macros, text-pushed, flat_map-append, map-append, list_any-append, append-nil)

-- the text of a piece with this number

zip-at : {X Y : Type 0} (P : X → Y → Type 0) (xs : List X) (ys : List Y) (x : X) (y : Y) (n : ℕ)
    → P x y → AllZip P xs ys → P (get_or xs n x) (get_or ys n y)
zip-at P [] [] x y n none h = none
zip-at P (x' ∷ xs) (y' ∷ ys) x y n none h = grind (arith, zip-at P xs ys x y, h.0, h.1)
zip-at P xs ys x y n none h = absurd h

row-of : {X : Type 0} (f : TextRead → List X) (ts : List TextRead) (n : ℕ) → f no_text ≡ []
    → row_at (map f ts) n ≡ f (get_or ts n no_text)
row-of f ts n none = rw (← none) (get_or-map f ts n no_text)

items-at : (P : PieceRead → Type 0) (pieces : List PieceRead) (n : ℕ) → P no_piece → All P pieces
    → P (get_or pieces n no_piece)
items-at P pieces n none all = grind (arith, nat_tests, get_or-eq_default pieces no_piece, all n no_piece)

-- the text that is read of a piece of a web

pub web-text : (web : WebRead) (stored : TextsRead) (n : ℕ) (text : TextRead) → AreTextsOf web.texts web.pieces stored
    → text ≡ text_at stored n → IsTextOf web.texts (get_or web.pieces n no_piece).items text
web-text web stored n text h is =
    let at = zip-at (λ p t. IsTextOf web.texts p.items t) web.pieces h.all no_piece no_text n (no-items web.texts) h.are in
    grind (arith, h.rows, row-of, at)

pub web-uses : (web : WebRead) (n : ℕ) (text : TextRead) → IsTextOf web.texts (get_or web.pieces n no_piece).items text
    → IsWellFormed web → All (λ u. u < length web.occurrences) text.uses
web-uses web n text is formed =
    rw is.uses
    (items-at (λ p. All (λ n. n < length web.occurrences) (flat_map item_uses p.items)) web.pieces n
    (All-nil (λ n. n < length web.occurrences)) formed.uses)
