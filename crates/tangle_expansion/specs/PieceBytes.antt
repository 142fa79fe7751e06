-- The bytes of the pieces of a node, in which a C compiler reads the items as the author means them.
use Rattle.std.specs.Prelude.{◌≡◌, ℕ, List, [], ◌++◌, drop, flat_map}
use Rattle.std.specs.Prelude.{slice_index_or}
use Rattle.std.specs.List.{AllZip}
use Rattle.tangle_lines.specs.declared.origin.Origin.{Origin}
use Rattle.tangle_lines.specs.Reading.{SourceRead}
use Rattle.tangle_scan.specs.ReadAsMeant.{IsMacroReadAsMeant, IsPieceReadAsMeant, all_macro_tokens}
use Rattle.tangle_scan.specs.ReadAsMeant.{all_piece_tokens}
use Rattle.tangle_scan.specs.ItemBytes.{piece_item_bytes}
use Rattle.tangle_scan.specs.MacroBytes.{macro_bytes}
use Rattle.tangle_scan.specs.Web.{WebRead, PieceRead}
use Rattle.tangle_scan.specs.declared.items.Item.{Item}
use Rattle.tangle_names.specs.declared.Resolved.{Resolved}
use Rattle.tangle_names.specs.declared.Resolved.TheVariants.{Name}
use Rattle.tangle_names.specs.NameTable.{TableRead}
use Rattle.tangle_bodies.specs.Flat.{Symbol}
use Rattle.tangle_bodies.specs.WebShapes.{resolved_at}
use Rattle.tangle_expansion.specs.Numbers.{NumbersRead, closing_bytes, expansion_bytes}
use Rattle.tangle_expansion.specs.Numbers.{mark_bytes_at, opening_bytes}

module _ (numbers : NumbersRead) where
  -- the bytes of a mark after its first line feed
  abbrev pub bytes_after_mark : Origin → List ℕ
  bytes_after_mark origin = drop 1 (mark_bytes_at numbers origin)

  module _ (table : TableRead) (used : List ℕ → List Symbol) where
    -- the bytes of the name to which an occurrence resolves, where a name has these symbols
    abbrev pub resolved_bytes : Resolved → List ℕ
    resolved_bytes (Name id) = expansion_bytes numbers (used (slice_index_or table.names id []))
    resolved_bytes _ = []

    abbrev pub used_bytes : ℕ → List ℕ
    used_bytes occurrence = resolved_bytes (resolved_at table occurrence)

    module _ (texts : List (List ℕ)) where
      -- the bytes of the items of a piece
      abbrev pub items_bytes : List Item → List ℕ
      items_bytes items =
          flat_map (piece_item_bytes texts used_bytes bytes_after_mark numbers.macros) items

      -- the bytes of a piece: those of its opening, its mark, its items and its closing
      abbrev pub piece_bytes : PieceRead → List ℕ
      piece_bytes piece =
          opening_bytes piece.section ++ mark_bytes_at numbers piece.origin
          ++ items_bytes piece.items ++ closing_bytes piece.section

-- The bytes of the macros are those of each macro, one after another. In these bytes, and in those
-- of each piece from the mark of its opening up to its closing, a C compiler reads the items as the
-- author means them.
pub record AreWrittenAsMeant (source : SourceRead) (web : WebRead) (table : TableRead)
    (used : List ℕ → List Symbol) (numbers : NumbersRead) : Type 0 where
  pub macros_written : numbers.macros ≡ flat_map (macro_bytes web.texts) web.macros
  pub macros : AllZip
      (λ items tokens. IsMacroReadAsMeant web.texts tokens (macro_bytes web.texts items))
      web.macros (all_macro_tokens source.lines)
  pub pieces : AllZip
      (λ piece tokens. IsPieceReadAsMeant source.lines (used_bytes numbers table used)
      (bytes_after_mark numbers) numbers.macros tokens
      (items_bytes numbers table used web.texts piece.items))
      web.pieces (all_piece_tokens source.lines)
