-- Writing a node from one of its tags on. Only private contracts cite these definitions.
use Rattle.std.specs.Prelude.{◌≡◌, ◌+◌, ◌-◌, ◌^◌, ℕ, min, List, [], ◌∷◌, ◌++◌, take, drop}
use Rattle.std.specs.Prelude.{Result}
use Rattle.tangle_files.specs.Bytes.{space}
use Rattle.tangle_streams.specs.declared.failures.WriteFault.{WriteFault}
use Rattle.tangle_streams.specs.Streams.{Stream, IsWrittenAfter}
use Rattle.tangle_bodies.specs.Flat.{Symbol}
use Rattle.tangle_bodies.specs.Shapes.{Title}
use Rattle.tangle_bodies.specs.Meaning.{tags_flat, next_piece, next_mark}
use Rattle.tangle_bodies.specs.declared.nodes.NodeItems.{NodeItems}
use Rattle.tangle_scan.specs.declared.texts.ItemTag.{ItemTag}
use Rattle.tangle_expansion.specs.Numbers.{NumbersRead, expansion_bytes}
use Rattle.tangle_expansion.specs.declared.cursor.Cursor.{Cursor}

-- the bytes from one position of a list up to another
abbrev pub bytes_between : List ℕ → ℕ → ℕ → List ℕ
bytes_between bytes start end = take (end - start) (drop start bytes)

-- the cursor after a tag
pub record IsAfterTag (at : Cursor) (t : ItemTag) (next : Cursor) : Type 0 where
  pub tag : next.tag ≡ at.tag + 1
  pub piece : next.piece ≡ next_piece at.piece t.kind
  pub marks : next.marks ≡ next_mark at.marks t.kind
  pub start : next.start ≡ min (at.start + t.size) (2 ^ 64 - 1)

module _ (title : Title) (items : NodeItems) (at : Cursor) where
  -- the symbols of the remaining tags
  abbrev pub symbols_from : List (List Symbol) → List Symbol
  symbols_from used =
      tags_flat title at.piece at.marks
      (drop at.start items.bytes.items) (drop at.tag items.tags.items) used

  -- their bytes
  abbrev pub bytes_from : NumbersRead → List (List Symbol) → List ℕ
  bytes_from numbers used = expansion_bytes numbers (symbols_from used)

-- The bytes from a use on, where used names have these symbols: the space of the use, the symbols
-- of the name, and the rest. There are none where there is no use.
abbrev pub from_use : NumbersRead → (List (List Symbol) → List ℕ) → List (List Symbol) → List ℕ
from_use numbers rest [] = []
from_use numbers rest (symbols ∷ used) = space ∷ expansion_bytes numbers symbols ++ rest used

-- where the rest is written next, this whole is written
abbrev pub Wrote : Stream → Stream → Result ℕ WriteFault → Result ℕ WriteFault → List ℕ → List ℕ
    → Type 0
Wrote old new so_far result rest whole = (last : Stream) (all : Result ℕ WriteFault)
    → IsWrittenAfter new last result rest all → IsWrittenAfter old last so_far whole all
