-- One more tag of a node is written.
use Rattle.std.proofs.Common.{rules}
use Rattle.std.proofs.lemmas.Bool.Decides.{nat_tests}
use Rattle.std.proofs.Common.{◌≡◌, ◌∙◌, ℕ, ◌+◌, ◌-◌, ◌^◌, ◌<◌, ◌≤◌, min, List, [], ◌∷◌, ◌++◌, map, take}
use Rattle.std.proofs.Common.{drop, length, get_or, refl, ap, sym, append_assoc, arith, drop-drop, length-drop}
use Rattle.std.proofs.lemmas.List.{drop_all, drop_min, take_min}
use Rattle.std.proofs.Math.Seq.{take-add}
use Rattle.std.proofs.lemmas.Grind.{flat_map-append}
use Rattle.tangle_files.specs.Bytes.{space}
use Rattle.tangle_bodies.specs.Flat.{Symbol, Byte}
use Rattle.tangle_bodies.specs.Meaning.{left_over, with_used}
use Rattle.tangle_bodies.specs.Flat.{own_symbols}
use Rattle.tangle_bodies.specs.Shapes.{Title, Program}
use Rattle.tangle_bodies.specs.declared.nodes.NodeItems.{NodeItems}
use Rattle.tangle_scan.specs.declared.texts.ItemKind.{ItemKind}
use Rattle.tangle_scan.specs.declared.texts.ItemKind.TheVariants as tag
use Rattle.tangle_scan.specs.declared.texts.ItemTag.{ItemTag}
use Rattle.tangle_bodies.proofs.EachLemmas.{drop_at}
use Rattle.tangle_expansion.specs.Numbers.{NumbersRead, expansion_bytes}
use Rattle.tangle_expansion.specs.Writing.{bytes_between, IsAfterTag, symbols_from, bytes_from, from_use}
use Rattle.tangle_expansion.specs.declared.cursor.Cursor.{Cursor}
use Rattle.tangle_expansion.proofs.WrittenLemmas.{bytes_then}

-- positions up to the greatest number; no list of bytes is longer

drop_saturated : (bytes : List ℕ) (n : ℕ) → length bytes < 2 ^ 64 → drop (min n (2 ^ 64 - 1)) bytes ≡ drop n bytes
drop_saturated bytes n fits =
    let same : min (min n (2 ^ 64 - 1)) (length bytes) ≡ min n (length bytes) = omega arith in
    sym (drop_min (min n (2 ^ 64 - 1)) bytes) ∙ ap (λ k. drop k bytes) same ∙ drop_min n bytes

between_more : (bytes : List ℕ) (start end size next : ℕ) → length bytes < 2 ^ 64 → start ≤ end
    → next ≡ min (end + size) (2 ^ 64 - 1)
    → bytes_between bytes start end ++ take size (drop end bytes) ≡ bytes_between bytes start next
between_more bytes start end size next fits low is =
    let rest = drop start bytes in
    let same : min (end - start + size) (length rest) ≡ min (next - start) (length rest)
    = omega (arith, length-drop start bytes) in
    search (rules, drop-drop, take-add, take_min)

-- the bytes from a use on
use_bytes : (numbers : NumbersRead) (rest : List (List Symbol) → List Symbol) (used : List (List Symbol))
    → expansion_bytes numbers (with_used tag.Use (Byte space ∷ []) used rest)
    ≡ from_use numbers (λ us. expansion_bytes numbers (rest us)) used
use_bytes numbers rest used = search (rules, flat_map-append)

-- from a tag on, after bytes that were passed
module _ (node : Title) (numbers : NumbersRead) (items : NodeItems) (at next : Cursor) (t : ItemTag)
    (h : at.tag < length items.tags.items) (is : t ≡ get_or items.tags.items at.tag t)
    (after : IsAfterTag at t next) (start : ℕ) (low : start ≤ at.start) where
  abbrev own : ItemKind → List Symbol
  own k = own_symbols node at.piece at.marks k

  -- the symbols from a tag on are those of the tag, and then those from the next one on
  symbols_next : (used : List (List Symbol)) → symbols_from node items at used
      ≡ map Byte (take t.size (drop at.start items.bytes.items)) ++ with_used t.kind (own t.kind) used (symbols_from node items next)
  symbols_next used = search (rules, drop-drop, drop_saturated, drop_at)

  -- the bytes from the tag on are its bytes and these
  abbrev Passes : (List (List Symbol) → List ℕ) → Type 0
  Passes rest = (used : List (List Symbol))
      → bytes_between items.bytes.items start at.start ++ bytes_from node items at numbers used
      ≡ bytes_between items.bytes.items start next.start ++ rest used

  passes : Passes (λ used. expansion_bytes numbers (with_used t.kind (own t.kind) used (symbols_from node items next)))
  passes used =
      let bytes = take t.size (drop at.start items.bytes.items) in
      let passed = bytes_between items.bytes.items start at.start in
      let more = between_more items.bytes.items start at.start t.size next.start (omega arith) low after.start in
      rw (symbols_next used, bytes_then numbers bytes, ← append_assoc passed bytes, more) refl

  -- bytes alone
  pub passes_bytes : length (own_symbols Program 0 0 t.kind) ≡ 0 → Passes (bytes_from node items next numbers)
  passes_bytes e used = search (rules, passes)

  -- symbols of the tag's own
  pub passes_symbols : (t.kind ≡ tag.Use → ⊥)
      → Passes (λ used. expansion_bytes numbers (own t.kind) ++ bytes_from node items next numbers used)
  passes_symbols none used = search (rules, passes, flat_map-append)

  -- a use
  pub passes_use : t.kind ≡ tag.Use → Passes (from_use numbers (bytes_from node items next numbers))
  passes_use at_use used = rw (passes used, at_use, use_bytes numbers (symbols_from node items next)) refl

pub stops_at_end : (node : Title) (numbers : NumbersRead) (items : NodeItems) (at : Cursor) → length items.tags.items ≤ at.tag
    → (used : List (List Symbol)) → bytes_from node items at numbers used ≡ from_use numbers (bytes_from node items at numbers) used
stops_at_end node numbers items at end used =
    let ended : (used : List (List Symbol)) → symbols_from node items at used ≡ left_over used = search (rules, drop_all) in
    grind (arith, nat_tests, use_bytes numbers left_over used)
