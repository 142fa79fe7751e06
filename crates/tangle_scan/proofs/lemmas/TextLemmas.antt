-- Items and runs are put at the end of a text, and a text is cut back.
use Rattle.std.proofs.Common.{rules}
use Rattle.std.proofs.Common.{◌≡◌, ◌≤◌, ℕ, ◌+◌, List, [], ◌∷◌, ◌++◌, map, length, drop, refl}
use Rattle.std.proofs.Common.{append_assoc, append-nil, arith, length-append, length-drop}
use Rattle.std.specs.Prelude.{flat_map}
use Rattle.std.proofs.lemmas.List.{map-append, take_all, take-append-le, drop-append-le}
use Rattle.std.proofs.lemmas.List.Concat.{flat_map-append}
use Rattle.std.proofs.Math.Seq.{take-append_seam}
use Rattle.tangle_text.specs.Runs.{run_parts}
use Rattle.tangle_text.specs.Text.{span_text}
use Rattle.tangle_text.specs.declared.spans.Span.{Span}
use Rattle.tangle_text.specs.declared.runs.RunPart.{RunPart}
use Rattle.tangle_scan.specs.declared.items.Item.{Item}
use Rattle.tangle_scan.specs.declared.texts.ItemKind.TheVariants as tag
use Rattle.tangle_scan.specs.declared.texts.ItemTag.{ItemTag}
use Rattle.tangle_scan.specs.declared.texts.TextSize.{TextSize}
use Rattle.tangle_scan.specs.ItemBytes.{bytes_in}
use Rattle.tangle_scan.specs.Passes.{HasSize, cut_to, size_of}
use Rattle.tangle_scan.specs.Texts.{TextRead, IsTextOf, item_origins, item_uses, no_text, part_item, tag_of}
use Rattle.tangle_scan.specs.Texts.{with_items, with_run}
use Rattle.tangle_scan.specs.UnfoldedTags.{StandFor, kind_tags, tag_sizes, unfolded_tags}
use Rattle.tangle_scan.proofs.lemmas.RunTags.{run_read}

-- tags that have all of their bytes stand for themselves and for those after them

unfolded_append : (tags more : List ItemTag) (bytes rest : List ℕ) → tag_sizes tags ≡ length bytes
    → unfolded_tags (tags ++ more) (bytes ++ rest) ≡ unfolded_tags tags bytes ++ unfolded_tags more rest
unfolded_append [] more [] rest h = refl
unfolded_append [] more (b ∷ bytes) rest h = absurd (omega (arith, h))
unfolded_append (t ∷ tags) more bytes rest h =
    let within : t.size ≤ length bytes = omega (arith, h) in
    let after = unfolded_append tags more (drop t.size bytes) rest (omega (arith, h, length-drop t.size bytes)) in
    grind (arith, take-append-le t.size bytes rest within, drop-append-le t.size bytes rest within, after, append_assoc)

sizes_append : (tags more : List ItemTag) → tag_sizes (tags ++ more) ≡ tag_sizes tags + tag_sizes more
sizes_append [] more = omega arith
sizes_append (t ∷ tags) more = omega (arith, sizes_append tags more)

pub stand_none : StandFor [] [] []
stand_none = record { are = refl; sizes = refl }

pub stand_append : (tags tags' : List ItemTag) (bytes bytes' : List ℕ) (unfolded unfolded' : List ItemTag)
    → StandFor tags bytes unfolded → StandFor tags' bytes' unfolded'
    → StandFor (tags ++ tags') (bytes ++ bytes') (unfolded ++ unfolded')
stand_append tags tags' bytes bytes' unfolded unfolded' one other =
    grind (arith, unfolded_append tags tags' bytes bytes', sizes_append, length-append)

-- one tag, with its bytes
pub stand_one : (t : ItemTag) (bytes : List ℕ) → t.size ≡ length bytes → StandFor (t ∷ []) bytes (kind_tags t.kind t bytes)
stand_one t bytes e = record {
  are = rw (take_all t.size bytes (omega (arith, e)), append-nil (kind_tags t.kind t bytes)) refl;
  sizes = omega (arith, e);
}

-- what no part of a run has, a run does not have

of-no-part : {X : Type 0} (f : Item → List X) → ((p : RunPart) → f (part_item p) ≡ []) → (ps : List RunPart)
    → flat_map f (map part_item ps) ≡ []
of-no-part f none [] = refl
of-no-part f none (p ∷ ps) = cc (none p, of-no-part f none ps)

module _ (texts : List (List ℕ)) where
  pub no-items : IsTextOf texts [] no_text
  no-items = record { tags = stand_none; bytes = refl; uses = refl; marks = refl }

  -- the tag of an item stands for itself
  item-stands : (x : Item) → StandFor (tag_of texts x ∷ []) (bytes_in texts x) (tag_of texts x ∷ [])
  item-stands x = grind (arith, stand_one (tag_of texts x) (bytes_in texts x) refl)

  items-stand : (items : List Item)
      → StandFor (map (tag_of texts) items) (flat_map (bytes_in texts) items) (map (tag_of texts) items)
  items-stand [] = stand_none
  items-stand (x ∷ items) =
      stand_append (tag_of texts x ∷ []) _ (bytes_in texts x) _ (tag_of texts x ∷ []) _ (item-stands x) (items-stand items)

  pub text-items : (items more : List Item) (text : TextRead) → IsTextOf texts items text
      → IsTextOf texts (items ++ more) (with_items texts text more)
  text-items items more text h = record {
    tags = rw (map-append (tag_of texts) items more)
        (stand_append text.tags _ text.bytes _ _ _ h.tags (items-stand more));
    bytes = rw (flat_map-append (bytes_in texts) items more, h.bytes) refl;
    uses = rw (flat_map-append item_uses items more, h.uses) refl;
    marks = rw (flat_map-append item_origins items more, h.marks) refl;
  }

  pub text-run : (items : List Item) (s : Span) (text : TextRead) → IsTextOf texts items text
      → IsTextOf texts (items ++ map part_item (run_parts texts s)) (with_run texts text s)
  text-run items s text h =
      let parts = run_parts texts s in
      let run = run_read texts s in
      -- a run uses no occurrence, and has no mark
      let no_use = of-no-part item_uses (λ x. grind arith) parts in
      let no_mark = of-no-part item_origins (λ x. grind arith) parts in
      record {
        tags = rw (map-append (tag_of texts) items (map part_item parts), run.1)
            (stand_append text.tags _ text.bytes _ _ _ h.tags (stand_one (record { kind = tag.Run; size = length (span_text texts s) }) (span_text texts s) refl));
        bytes = rw (flat_map-append (bytes_in texts) items (map part_item parts), h.bytes, run.0) refl;
        uses = rw (flat_map-append item_uses items (map part_item parts), no_use, append-nil (flat_map item_uses items)) h.uses;
        marks = rw (flat_map-append item_origins items (map part_item parts), no_mark, append-nil (flat_map item_origins items)) h.marks;
      }

  -- a text to which an item was added that is no use, cut back

  pub cut-more : (size : TextSize) (text : TextRead) (x : Item) → HasSize size text → item_uses x ≡ []
      → cut_to size (with_items texts text (x ∷ [])) ≡ cut_to size text
  cut-more size text x h none = search (rules, take-append-le)

  pub cut-back : (text : TextRead) (x : Item) → item_uses x ≡ []
      → cut_to (size_of text) (with_items texts text (x ∷ [])) ≡ text
  cut-back text x none = search (rules, take-append_seam)

  pub size-more : (size : TextSize) (text : TextRead) (items : List Item) → HasSize size text
      → HasSize size (with_items texts text items)
  size-more size text items h = grind (arith, length-append)

  pub size-own : (text : TextRead) (items : List Item) → HasSize (size_of text) (with_items texts text items)
  size-own text items = size-more (size_of text) text items (record { tags = omega arith; bytes = omega arith; marks = omega arith })
