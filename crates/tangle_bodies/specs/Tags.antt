-- How two shapes are compared: by a small tag for each item, by all bytes of the items, and by the
-- names of the uses.
use Rattle.std.specs.Prelude.{ℕ, List, [], ◌∷◌, ◌++◌, length, map, flat_map}
use Rattle.tangle_bodies.specs.Shapes.{Kind, ShapeItem, Written, Mark, AllMacros, Use, NoUse, Shape}
use Rattle.tangle_bodies.specs.Shapes as kind
use Rattle.tangle_scan.specs.declared.texts.ItemKind.{ItemKind}
use Rattle.tangle_scan.specs.declared.texts.ItemKind.TheVariants as tag
use Rattle.tangle_scan.specs.declared.texts.ItemTag.{ItemTag}

abbrev pub written_kind : Kind → ItemKind
written_kind kind.Word = tag.Word
written_kind kind.Sign = tag.Sign
written_kind kind.Quoted = tag.Quoted
written_kind kind.QuoteBreak = tag.QuoteBreak
written_kind kind.Verbatim = tag.Verbatim
written_kind kind.AsciiConstant = tag.AsciiConstant
written_kind kind.Blank = tag.Blank
written_kind kind.LineEnd = tag.LineEnd

-- the tag of an item: its kind, and the number of its bytes
abbrev pub item_tag : ShapeItem → ItemTag
item_tag (Written k bytes) = record { kind = written_kind k; size = length bytes }
item_tag Mark = record { kind = tag.Mark; size = 0 }
item_tag AllMacros = record { kind = tag.AllMacros; size = 0 }
item_tag (Use name) = record { kind = tag.Use; size = 0 }
item_tag NoUse = record { kind = tag.NoUse; size = 0 }

-- the tags that begin and end a piece

abbrev pub piece_start : ItemTag
piece_start = record { kind = tag.PieceStart; size = 0 }

abbrev pub piece_end : ItemTag
piece_end = record { kind = tag.PieceEnd; size = 0 }

abbrev pub item_bytes : ShapeItem → List ℕ
item_bytes (Written k bytes) = bytes
item_bytes _ = []

abbrev pub shape_tags : Shape → List ItemTag
shape_tags shape = flat_map (λ items. piece_start ∷ map item_tag items ++ piece_end ∷ []) shape

abbrev pub shape_bytes : Shape → List ℕ
shape_bytes shape = flat_map (λ items. flat_map item_bytes items) shape
