-- The numbers that are stored of pieces are those of the pieces.
use Rattle.std.proofs.Common.{rules}
use Rattle.std.proofs.Common.{◌≡◌, ◌∙◌, ◌<◌, ℕ, List, ◌∷◌, ap, get_or, map}
use Rattle.std.proofs.Common.{length, sym, All}
use Rattle.std.specs.Prelude.{slice_index_or}
use Rattle.std.proofs.lemmas.List.{get_or-map}
use Rattle.std.proofs.lemmas.List.Elements.{All-contains}
use Rattle.std.proofs.lemmas.Simd.{map-map}
use Rattle.tangle_names.proofs.ContainsLemmas.{map_same}
use Rattle.tangle_scan.specs.Texts.{TextRead, IsTextOf}
use Rattle.tangle_scan.specs.Web.{PieceRead, WebRead, no_piece, stored_piece}
use Rattle.tangle_scan.specs.declared.pieces.Piece.{Piece}
use Rattle.tangle_bodies.specs.Nodes.{pieces_at}
use Rattle.tangle_expansion.specs.Numbers.{numbers_of_piece}
use Rattle.tangle_expansion.specs.PieceNumbers.{numbers_of_position, numbers_of_rows}
use Rattle.tangle_expansion.specs.declared.piece_numbers.PieceNumbers.{PieceNumbers}

-- the origin of a stored piece and those of the marks of its text
pub origins_read : (web : WebRead) (stored : List Piece) (n : ℕ) (p : Piece) (text : TextRead)
    → stored ≡ map stored_piece web.pieces → n < length web.pieces
    → IsTextOf web.texts (get_or web.pieces n no_piece).items text
    → (get_or stored n p).origin ∷ text.marks ≡ (numbers_of_piece (get_or web.pieces n no_piece)).origins
origins_read web stored n p text is low h =
    let piece = ap (λ ps. get_or ps n p) is ∙ get_or-map stored_piece web.pieces n no_piece p low in
    cc (ap (λ (q : Piece). q.origin) piece, h.marks)

module _ (numbers : PieceNumbers) (pieces : List PieceRead)
    (sections : numbers.sections.items ≡ map (λ p. p.section) pieces)
    (origins : numbers.origins ≡ map (λ p. (numbers_of_piece p).origins) pieces) where
  position_numbers : (n : ℕ) → n < length pieces
      → numbers_of_position numbers n ≡ numbers_of_piece (slice_index_or pieces n no_piece)
  position_numbers n low = search (rules, get_or-map)

  row_numbers : (row : List ℕ) → All (λ n. n < length pieces) row
      → map (numbers_of_position numbers) row ≡ map numbers_of_piece (pieces_at pieces row)
  row_numbers row inside =
      map_same (numbers_of_position numbers) (λ n. numbers_of_piece (slice_index_or pieces n no_piece)) row
      (λ n c. position_numbers n (All-contains (λ n. n < length pieces) row n inside c))
      ∙ sym (map-map _ _ row)

  pub rows_numbers : (rows : List (List ℕ)) → All (All (λ n. n < length pieces)) rows
      → numbers_of_rows numbers rows ≡ map (map numbers_of_piece) (map (pieces_at pieces) rows)
  rows_numbers rows inside =
      search (rules, map_same, map-map, row_numbers, All-contains)
