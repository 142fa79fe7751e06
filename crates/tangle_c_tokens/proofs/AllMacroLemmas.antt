-- The bytes of all macros are read as their groups.
use Rattle.std.proofs.Common.{rules, ℕ, List, [], ◌∷◌, ◌++◌, flat_map}
use Rattle.std.proofs.Common.{append_assoc, refl}
use Rattle.std.specs.List.{AllByRecursion}
use Rattle.tangle_lines.specs.Reading.{SourceLine}
use Rattle.tangle_lexer.specs.declared.tokens.Token.{Token}
use Rattle.tangle_scan.specs.declared.items.Item.{Item}
use Rattle.tangle_scan.specs.Rules.{texts_of, macro_items}
use Rattle.tangle_lexer.specs.Steps.{all_tokens}
use Rattle.tangle_scan.specs.MacroBytes.{macro_bytes}
use Rattle.tangle_scan.specs.ReadAsMeant.{all_macro_tokens}
use Rattle.tangle_scan.specs.Web.{Block, blocks, macro_of}
use Rattle.tangle_c_tokens.specs.Reading.{IsReadAsTexts}
use Rattle.tangle_c_tokens.specs.Kinds.{AreTexts}
use Rattle.tangle_c_tokens.specs.LineFeeds.{SourceLinesHaveNoLineFeed}
use Rattle.tangle_c_tokens.proofs.OneLineLemmas.{texts-on_line}
use Rattle.tangle_c_tokens.specs.Macros.{GroupsAreReadAlone, macro_texts}
use Rattle.tangle_c_tokens.proofs.MacroLemmas.{macro-by-groups}
use Rattle.tangle_c_tokens.proofs.kind_lemmas.WebTexts.{macro_tokens_of, macros-by, blocks-have}
use Rattle.tangle_c_tokens.proofs.FeedLemmas.{KeepsFeed, keeps-more, keeps-last}

pub macros-keep : (texts : List (List ℕ)) (macros : List (List Item))
    → KeepsFeed (flat_map (macro_bytes texts) macros)
macros-keep texts [] = refl
macros-keep texts (items ∷ macros) = search (rules, keeps-more, keeps-last, macros-keep texts macros)

-- `rest` is written after all macros, and read as the texts `ts`.
module _ (lines : List SourceLine) (rest : List ℕ) (ts : List (List ℕ))
    (read : IsReadAsTexts ts rest) (none : SourceLinesHaveNoLineFeed lines) where
  abbrev AreRead : List (List Item) → List (List Token) → Type 0
  AreRead macros tokens = AllByRecursion (GroupsAreReadAlone (texts_of lines)) tokens →
      IsReadAsTexts (flat_map (macro_texts (texts_of lines)) tokens ++ ts)
      (flat_map (macro_bytes (texts_of lines)) macros ++ rest)

  one-more : (b : Block) (macros : List (List Item)) (tokens : List (List Token)) → AreTexts (texts_of lines) (macro_tokens_of lines b)
      → AreRead macros tokens → AreRead (macro_items (texts_of lines) b.tokens ∷ macros) (macro_tokens_of lines b ∷ tokens)
  one-more b macros tokens are next alone =
      simp append_assoc
      (simp append_assoc at (macro-by-groups (texts_of lines) _ _ (next alone.1) (macro_tokens_of lines b)
      (texts-on_line lines none _ are) alone.0))

  pub macros-whole : AreRead (flat_map (macro_of lines) (blocks 0 (all_tokens lines))) (all_macro_tokens lines)
  macros-whole = macros-by lines AreRead (λ alone. read) one-more (blocks 0 (all_tokens lines)) (blocks-have lines none)
