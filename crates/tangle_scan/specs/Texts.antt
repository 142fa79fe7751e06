-- The text of a piece: tags, which say what its bytes are and what comes between them, the bytes,
-- the numbers of the occurrences in its uses, and the origins of its marks. A run of words, signs,
-- quoted texts and single spaces has one tag.
use Rattle.std.specs.Prelude.{◌≡◌, ℕ, List, [], ◌∷◌, ◌++◌, length, map, flat_map}
use Rattle.digraph.specs.Graph.{row_at}
use Rattle.tangle_lines.specs.declared.origin.Origin.{Origin}
use Rattle.tangle_text.specs.declared.spans.Span.{Span}
use Rattle.tangle_text.specs.declared.runs.RunPart.{RunPart}
use Rattle.tangle_text.specs.declared.runs.RunPart.TheVariants as part
use Rattle.tangle_text.specs.Text.{span_text}
use Rattle.tangle_scan.specs.declared.items.Item.{Item}
use Rattle.tangle_scan.specs.declared.items.Item.TheVariants as item
use Rattle.tangle_scan.specs.declared.texts.ItemKind.{ItemKind}
use Rattle.tangle_scan.specs.declared.texts.ItemKind.TheVariants as tag
use Rattle.tangle_scan.specs.declared.texts.ItemTag.{ItemTag}
use Rattle.tangle_scan.specs.declared.texts.PieceText.{PieceText}
use Rattle.tangle_scan.specs.ItemBytes.{bytes_in}
use Rattle.tangle_scan.specs.UnfoldedTags.{StandFor}

pub record TextRead : Type 0 where
  pub tags : List ItemTag
  pub bytes : List ℕ
  pub uses : List ℕ
  pub marks : List Origin

abbrev pub no_text : TextRead
no_text = record { tags = []; bytes = []; uses = []; marks = [] }

-- a text with a tag at its end, of this kind and for this number of bytes
abbrev pub with_tag : ItemKind → ℕ → TextRead → TextRead
with_tag kind size text =
    record text { tags = text.tags ++ record { kind = kind; size = size } ∷ [] }

-- the text that a reader of a web is given
abbrev pub text_of : PieceText → TextRead
text_of text = record {
  tags = text.tags.now;
  bytes = text.bytes.now;
  uses = text.uses.now;
  marks = text.marks.now;
}

-- the texts of pieces: for each piece a row in each of four lists
pub record TextsRead : Type 0 where
  pub tags : List (List ItemTag)
  pub bytes : List (List ℕ)
  pub uses : List (List ℕ)
  pub marks : List (List Origin)

abbrev pub no_texts : TextsRead
no_texts = record { tags = []; bytes = []; uses = []; marks = [] }

-- texts with one more
abbrev pub with_text : TextsRead → TextRead → TextsRead
with_text texts text = record {
  tags = texts.tags ++ text.tags ∷ [];
  bytes = texts.bytes ++ text.bytes ∷ [];
  uses = texts.uses ++ text.uses ∷ [];
  marks = texts.marks ++ text.marks ∷ [];
}

-- the text of the piece with this number
abbrev pub text_at : TextsRead → ℕ → TextRead
text_at texts n = record {
  tags = row_at texts.tags n;
  bytes = row_at texts.bytes n;
  uses = row_at texts.uses n;
  marks = row_at texts.marks n;
}

-- the item of a part of a run
abbrev pub part_item : RunPart → Item
part_item (part.Word s) = item.Word s
part_item (part.Quoted s) = item.Quoted s
part_item (part.Sign s) = item.Sign s
part_item part.Space = item.Blank

abbrev pub item_kind : Item → ItemKind
item_kind (item.Word s) = tag.Word
item_kind (item.Sign s) = tag.Sign
item_kind (item.Quoted s) = tag.Quoted
item_kind item.QuoteBreak = tag.QuoteBreak
item_kind (item.Verbatim s) = tag.Verbatim
item_kind (item.AsciiConstant value) = tag.AsciiConstant
item_kind item.Blank = tag.Blank
item_kind item.LineEnd = tag.LineEnd
item_kind (item.LineMark origin) = tag.Mark
item_kind (item.UseOf occurrence) = tag.Use
item_kind item.AllMacros = tag.AllMacros

-- the occurrence of an item that is a use, and the origin of one that is a line mark

abbrev pub item_uses : Item → List ℕ
item_uses (item.UseOf occurrence) = occurrence ∷ []
item_uses _ = []

abbrev pub item_origins : Item → List Origin
item_origins (item.LineMark origin) = origin ∷ []
item_origins _ = []

module _ (texts : List (List ℕ)) where
  -- the tag of an item: its kind, and the number of its bytes
  abbrev pub tag_of : Item → ItemTag
  tag_of x = record { kind = item_kind x; size = length (bytes_in texts x) }

  -- a text with these items at its end
  abbrev pub with_items : TextRead → List Item → TextRead
  with_items old items = record {
    tags = old.tags ++ map tag_of items;
    bytes = old.bytes ++ flat_map (bytes_in texts) items;
    uses = old.uses ++ flat_map item_uses items;
    marks = old.marks ++ flat_map item_origins items;
  }

  -- a text with a run at its end
  abbrev pub with_run : TextRead → Span → TextRead
  with_run old s = record old {
    tags = old.tags ++ record { kind = tag.Run; size = length (span_text texts s) } ∷ [];
    bytes = old.bytes ++ span_text texts s;
  }

  -- A text is that of these items: its bytes are theirs, its tags stand for theirs, and it has their
  -- uses and marks.
  pub record IsTextOf (items : List Item) (text : TextRead) : Type 0 where
    pub tags : StandFor text.tags text.bytes (map tag_of items)
    pub bytes : text.bytes ≡ flat_map (bytes_in texts) items
    pub uses : text.uses ≡ flat_map item_uses items
    pub marks : text.marks ≡ flat_map item_origins items
