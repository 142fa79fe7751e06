-- The spans of items.
use Rattle.std.specs.Prelude.{List, [], ◌∷◌, flat_map}
use Rattle.tangle_text.specs.declared.spans.Span.{Span}
use Rattle.tangle_scan.specs.declared.items.Item.{Item}
use Rattle.tangle_scan.specs.declared.items.Item.TheVariants as item

-- the span of an item, if it has one
abbrev pub item_span : Item → List Span
item_span (item.Word s) = s ∷ []
item_span (item.Sign s) = s ∷ []
item_span (item.Quoted s) = s ∷ []
item_span (item.Verbatim s) = s ∷ []
item_span _ = []

-- the spans of items, in the order of the items
abbrev pub item_spans : List Item → List Span
item_spans items = flat_map item_span items
