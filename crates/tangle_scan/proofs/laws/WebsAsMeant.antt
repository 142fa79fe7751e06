-- A C compiler reads the items of a web as the author means them.
use Rattle.std.proofs.Common.{arith}
use Rattle.std.proofs.lemmas.Bool.Decides.{nat_tests}
use Rattle.std.proofs.Common.{ℕ, List, [], ◌∷◌, map, flat_map}
use Rattle.std.specs.List.{AllZip}
use Rattle.tangle_lines.specs.declared.origin.Origin.{Origin}
use Rattle.tangle_lines.specs.Reading.{SourceLine, SourceRead}
use Rattle.tangle_lexer.specs.Steps.{all_tokens}
use Rattle.tangle_scan.specs.Rules.{texts_of, part_tokens, macro_tokens, without_backslashes}
use Rattle.tangle_scan.specs.ItemBytes.{piece_item_bytes}
use Rattle.tangle_scan.specs.MacroBytes.{macro_bytes}
use Rattle.tangle_scan.specs.Web.{web_of, Block, blocks, piece_of, macro_of}
use Rattle.tangle_scan.specs.ReadAsMeant.{ItemsAreReadAsMeant, IsMacroReadAsMeant, IsPieceReadAsMeant}
use Rattle.tangle_scan.proofs.laws.MacrosAsMeant.{macro-as-meant}
use Rattle.tangle_scan.proofs.laws.PiecesAsMeant.{piece-as-meant}

module _ (lines : List SourceLine) where
  abbrev texts : List (List ℕ)
  texts = texts_of lines

  macros-as-meant : (bs : List Block) → AllZip (λ items tokens. IsMacroReadAsMeant texts tokens (macro_bytes texts items))
      (flat_map (macro_of lines) bs)
      (flat_map (λ b. map (λ items. without_backslashes texts (macro_tokens texts b.tokens)) (macro_of lines b)) bs)
  macros-as-meant [] = tt
  macros-as-meant (b ∷ bs) =
      grind (arith, nat_tests, macros-as-meant bs, macro-as-meant texts (without_backslashes texts (macro_tokens texts b.tokens)))

  pieces-as-meant : (used : ℕ → List ℕ) (mark : Origin → List ℕ) (macros : List ℕ) (bs : List Block) → AllZip
      (λ p tokens. IsPieceReadAsMeant lines used mark macros tokens (flat_map (piece_item_bytes texts used mark macros) p.items))
      (flat_map (piece_of lines) bs) (flat_map (λ b. map (λ p. part_tokens texts b.tokens) (piece_of lines b)) bs)
  pieces-as-meant used mark macros [] = tt
  pieces-as-meant used mark macros (b ∷ bs) =
      grind (arith, nat_tests, pieces-as-meant used mark macros bs, piece-as-meant lines used mark macros)

pub web-as-meant : (source : SourceRead) → ItemsAreReadAsMeant source (web_of source)
web-as-meant source =
    let lines : List SourceLine = source.lines in
    record {
      macros = macros-as-meant lines (blocks 0 (all_tokens lines));
      pieces = λ used mark macros. pieces-as-meant lines used mark macros (blocks 0 (all_tokens lines));
    }
