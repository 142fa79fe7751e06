-- The bytes of a macro.
use Rattle.std.specs.Prelude.{ℕ, Bool, true, false, ◌==◌, List, [], ◌∷◌, ◌++◌, flat_map, codes}
use Rattle.std.specs.Prelude.{if◌then◌else◌}
use Rattle.tangle_text.specs.Bytes.{backslash}
use Rattle.tangle_scan.specs.declared.items.Item.{Item}
use Rattle.tangle_scan.specs.declared.items.Item.TheVariants as item
use Rattle.tangle_lexer.specs.declared.tokens.Token.{Token}
use Rattle.tangle_lexer.specs.declared.tokens.Token.TheVariants as token
use Rattle.tangle_lexer.specs.declared.tokens.SpanKind.TheVariants as span_kind
use Rattle.tangle_lexer.specs.SpanBytes.{first_byte}
use Rattle.tangle_scan.specs.ItemBytes.{bytes_in}

module _ (texts : List (List ℕ)) where
  -- Blanks, line ends and backslashes are not written at the end of a macro. After a backslash
  -- there, a C compiler would take out the line feed that ends the macro, and read the next macro
  -- as a part of this one. A line end inside a quoted text is written, since it belongs to that
  -- text.
  abbrev pub is_dropped_at_end : Item → Bool
  is_dropped_at_end item.Blank = true
  is_dropped_at_end item.LineEnd = true
  is_dropped_at_end (item.Sign span) = first_byte texts span == backslash
  is_dropped_at_end _ = false

  -- all items of a token are dropped at the end, or it has none
  abbrev pub is_dropped_token : Token → Bool
  is_dropped_token (token.Span span_kind.Sign s) = first_byte texts s == backslash
  is_dropped_token (token.Span kind s) = false
  is_dropped_token (token.Run s) = false
  is_dropped_token (token.QuoteBreak line) = false
  is_dropped_token (token.AsciiConstant value line) = false
  is_dropped_token _ = true

  abbrev pub without_end_after : Item → List Item → List Item
  without_end_after x [] = if is_dropped_at_end x then [] else x ∷ []
  without_end_after x (y ∷ items) = x ∷ y ∷ items

  -- the items of a macro without those that are not written at its end
  abbrev pub without_end : List Item → List Item
  without_end [] = []
  without_end (x ∷ items) = without_end_after x (without_end items)

  -- the bytes of an item of a macro: those of a line end begin with a backslash
  abbrev pub macro_item_bytes : Item → List ℕ
  macro_item_bytes item.LineEnd = codes "\\\n"
  macro_item_bytes x = bytes_in texts x

  abbrev pub macro_bytes : List Item → List ℕ
  macro_bytes items =
      codes "#define " ++ flat_map macro_item_bytes (without_end items) ++ codes "\n"
