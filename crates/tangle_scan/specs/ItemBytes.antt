-- The bytes that are written for items. They are defined here, below the crates that write them, so
-- that the law about items that stay apart can be a law of webs.
use Rattle.std.specs.Prelude.{ℕ, List, [], ◌∷◌, decimal}
use Rattle.tangle_files.specs.Bytes.{space, line_feed}
use Rattle.tangle_lines.specs.declared.origin.Origin.{Origin}
use Rattle.tangle_scan.specs.declared.items.Item.{Item}
use Rattle.tangle_scan.specs.declared.items.Item.TheVariants as item
use Rattle.tangle_scan.specs.Rules.{span_text}

module _ (texts : List (List ℕ)) where
  -- the bytes of an item; a use, a mark and all macros have none here
  abbrev pub bytes_in : Item → List ℕ
  bytes_in (item.Word span) = span_text texts span
  bytes_in (item.Sign span) = span_text texts span
  bytes_in (item.Quoted span) = span_text texts span
  bytes_in item.QuoteBreak = line_feed ∷ []
  bytes_in (item.Verbatim span) = span_text texts span
  bytes_in (item.AsciiConstant value) = decimal value
  bytes_in item.Blank = space ∷ []
  bytes_in item.LineEnd = line_feed ∷ []
  bytes_in (item.LineMark origin) = []
  bytes_in (item.UseOf occurrence) = []
  bytes_in item.AllMacros = []

  -- the bytes of an item of a piece, if these are written for uses, for marks after their first
  -- line feed, and for all macros
  abbrev pub piece_item_bytes : (ℕ → List ℕ) → (Origin → List ℕ) → List ℕ → Item → List ℕ
  piece_item_bytes used mark macros (item.UseOf occurrence) = space ∷ used occurrence
  piece_item_bytes used mark macros (item.LineMark origin) = line_feed ∷ mark origin
  piece_item_bytes used mark macros item.AllMacros = line_feed ∷ macros
  piece_item_bytes used mark macros x = bytes_in x
