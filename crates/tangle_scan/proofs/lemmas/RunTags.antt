-- The parts of a run have its bytes.
use Rattle.std.proofs.Common.{rules}
use Rattle.std.proofs.lemmas.Bool.Decides.{nat_tests}
use Rattle.std.proofs.Common.{◌≡◌, ◌∙◌, ℕ, ◌+◌, ◌-◌, ◌≤◌, true, false, zero, suc, List, [], ◌∷◌, ◌++◌}
use Rattle.std.proofs.Common.{length, map, take, drop, get_or, refl, ap, sym, arith, slice_get, Some, None, drop-drop}
use Rattle.std.specs.Prelude.{flat_map}
use Rattle.std.proofs.lemmas.List.{take-append-le, take-append-drop, length-take-le, get_or-drop}
use Rattle.tangle_text.specs.Bytes.{is_word_byte}
use Rattle.tangle_text.specs.Runs.{is_quote, part_more, part_at, parts_of, run_parts}
use Rattle.tangle_text.specs.Text.{span_text}
use Rattle.tangle_text.specs.declared.runs.RunPart.{RunPart}
use Rattle.tangle_text.specs.declared.runs.RunPart.TheVariants as part
use Rattle.tangle_text.specs.declared.spans.Span.{Span}
use Rattle.tangle_files.specs.Bytes.{space}
use Rattle.tangle_text.proofs.PartLemmas.{part-fits}
use Rattle.tangle_scan.specs.Texts.{part_item, tag_of}
use Rattle.tangle_scan.specs.declared.items.Item.{Item}
use Rattle.tangle_scan.specs.ItemBytes.{bytes_in}
use Rattle.tangle_scan.specs.UnfoldedTags.{part_tag, run_tags}

pub no_run_tags : run_tags [] ≡ []
unfolding run_tags
no_run_tags = refl

-- what holds of a space, a word, a quoted text and a sign holds of the part
pub part-by : (P : RunPart → Type 0) (line column size b : ℕ) →
    let s : Span = record { line = line; start = column; end = column + size } in
    (b ≡ space → P part.Space) → (is_word_byte b ≡ true → P (part.Word s))
    → (is_word_byte b ≡ false → is_quote b ≡ true → P (part.Quoted s))
    → (is_word_byte b ≡ false → is_quote b ≡ false → P (part.Sign s)) → P (part_at line column size b)
part-by P line column size b blank word quoted sign = grind (arith, nat_tests)

pub part_size : (line column b : ℕ) (bs : List ℕ)
    → (part_tag (part_at line column (1 + part_more b bs) b)).size ≡ suc (part_more b bs)
part_size line column b bs = grind (arith, nat_tests)

-- the tags of parts, wherever they are
tags_from : (line column k : ℕ) (bs : List ℕ) → map part_tag (parts_of line column k bs) ≡ run_tags (drop k bs)
unfolding run_tags
tags_from line column zero [] = refl
tags_from line column (suc k) [] = refl
tags_from line column (suc k) (b ∷ bs) = tags_from line (column + 1) k bs
tags_from line column zero (b ∷ bs) =
    let same = tags_from line (column + 1) (part_more b bs) bs ∙ sym (tags_from 0 1 (part_more b bs) bs) in
    search rules

-- the first part of a run

pub first_part : (bs : List ℕ) (p : RunPart) → slice_get (parts_of 0 0 0 bs) 0 ≡ Some p
    → ((part_tag p).size ≤ length bs) × (run_tags bs ≡ part_tag p ∷ run_tags (drop ((part_tag p).size) bs))
unfolding run_tags
first_part [] p is = cc
first_part (b ∷ bs) p is = search (rules, tags_from, part_size, part-fits)

pub no_part : (bs : List ℕ) → slice_get (parts_of 0 0 0 bs) 0 ≡ None → bs ≡ []
no_part [] is = refl
no_part (b ∷ bs) is = cc

-- the items of a run have its bytes, and the tags of its parts

module _ (texts : List (List ℕ)) (line column b : ℕ) (bs rest : List ℕ)
    (is : drop column (get_or texts line []) ≡ b ∷ bs ++ rest) where
  abbrev more : ℕ
  more = part_more b bs

  abbrev p : RunPart
  p = part_at line column (1 + more) b

  part_bytes : bytes_in texts (part_item p) ≡ b ∷ take more bs
  part_bytes =
      let size : column + (1 + more) - column ≡ suc more = omega arith in
      grind (arith, nat_tests, size, is, take-append-le more bs rest (part-fits b bs))

  part_tagged : tag_of texts (part_item p) ≡ part_tag p
  part_tagged = grind (arith, nat_tests, part_bytes, part_size line column b bs, length-take-le, part-fits b bs)

  pub front_byte : get_or (get_or texts line []) column 0 ≡ b
  front_byte = grind (arith, nat_tests, get_or-drop column (get_or texts line []) 0 0)

  pub next_bytes : drop (column + 1) (get_or texts line []) ≡ bs ++ rest
  next_bytes = sym (drop-drop 1 column (get_or texts line [])) ∙ ap (drop 1) is

module _ (texts : List (List ℕ)) where
  parts_read : (line column k : ℕ) (bs rest : List ℕ) → drop column (get_or texts line []) ≡ bs ++ rest →
      let items : List Item = map part_item (parts_of line column k bs) in
      (flat_map (bytes_in texts) items ≡ drop k bs)
      × (map (tag_of texts) items ≡ map part_tag (parts_of line column k bs))
  parts_read line column zero [] rest is = (refl, refl)
  parts_read line column (suc k) [] rest is = (refl, refl)
  parts_read line column (suc k) (b ∷ bs) rest is =
      parts_read line (column + 1) k bs rest (next_bytes texts line column b bs rest is)
  parts_read line column zero (b ∷ bs) rest is =
      let after = parts_read line (column + 1) (part_more b bs) bs rest (next_bytes texts line column b bs rest is) in
      let front = part_bytes texts line column b bs rest is in
      grind (arith, nat_tests, front, after, part_tagged texts line column b bs rest is, take-append-drop (part_more b bs) bs)

  pub run_read : (s : Span) →
      let items : List Item = map part_item (run_parts texts s) in
      let bytes : List ℕ = span_text texts s in
      (flat_map (bytes_in texts) items ≡ bytes) × (map (tag_of texts) items ≡ run_tags bytes)
  unfolding run_parts
  run_read s =
      let line : List ℕ = drop s.start (get_or texts s.line []) in
      let is = parts_read s.line s.start 0 (span_text texts s) _ (sym (take-append-drop (s.end - s.start) line)) in
      (is.0, is.1 ∙ tags_from s.line s.start 0 (span_text texts s))
