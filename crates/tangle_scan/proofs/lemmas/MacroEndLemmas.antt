-- The items of spaced tokens without those that are dropped at the end of a macro.
use Rattle.std.proofs.Common.{◌≡◌, ◌∙◌, ap, map, refl, sym, Bool, true, false, List, [], ◌∷◌, ◌++◌, ℕ, arith, flat_map, append-nil, append_assoc}
use Rattle.std.proofs.lemmas.Bool.Decides.{nat_tests}
use Rattle.tangle_text.specs.Bytes.{backslash}
use Rattle.tangle_text.specs.Text.{span_text}
use Rattle.tangle_text.specs.declared.spans.Span.{Span}
use Rattle.tangle_text.specs.declared.runs.RunPart.{RunPart}
use Rattle.tangle_text.specs.Runs.{are_apart, run_parts}
use Rattle.tangle_lexer.specs.declared.tokens.Token.{Token}
use Rattle.tangle_lexer.specs.declared.tokens.Token.TheVariants as token
use Rattle.tangle_lexer.specs.Runs.{part_token, IsRunIn}
use Rattle.tangle_lexer.specs.SpanBytes.{ends_in}
use Rattle.tangle_scan.specs.declared.items.Item.{Item}
use Rattle.tangle_scan.specs.Texts.{part_item}
use Rattle.tangle_scan.specs.ItemBytes.{bytes_in}
use Rattle.tangle_scan.specs.Passes.{last_of, spaced_items, written_items}
use Rattle.tangle_scan.specs.MacroBytes.{is_dropped_at_end, is_dropped_token, macro_item_bytes, without_end, without_end_after}
use Rattle.tangle_scan.proofs.lemmas.RunItems.{run-ends}
use Rattle.tangle_scan.proofs.lemmas.RunTags.{run_read}
use Rattle.std.proofs.lemmas.List.{flat_map_more}

module _ (texts : List (List ℕ)) where
  -- the bytes of a run
  part-bytes : (ps : List RunPart)
      → flat_map (macro_item_bytes texts) (map part_item ps) ≡ flat_map (bytes_in texts) (map part_item ps)
  part-bytes [] = refl
  part-bytes (p ∷ ps) = grind (arith, part-bytes ps)

  pub run_bytes : (s : Span) → flat_map (macro_item_bytes texts) (written_items texts (token.Run s)) ≡ span_text texts s
  run_bytes s = part-bytes (run_parts texts s) ∙ (run_read texts s).0

  -- the last items are dropped, or the last one is written

  dropped_last : (xs : List Item) (x : Item)
      → is_dropped_at_end texts x ≡ true → without_end texts (xs ++ x ∷ []) ≡ without_end texts xs
  dropped_last [] x dropped = rw dropped
  dropped_last (y ∷ ys) x dropped = ap (without_end_after texts y) (dropped_last ys x dropped)

  -- the items `items` are written, whatever is before them
  abbrev IsWhole : List Item → Type 0
  IsWhole items = (xs : List Item) → without_end texts (xs ++ items) ≡ xs ++ items

  written_tail : (y : Item) (ys : List Item) (x : Item) → without_end_after texts y (ys ++ x ∷ []) ≡ y ∷ ys ++ x ∷ []
  written_tail y [] x = refl
  written_tail y (z ∷ zs) x = refl

  written_last : (x : Item) → is_dropped_at_end texts x ≡ false → IsWhole (x ∷ [])
  written_last x written [] = rw written
  written_last x written (y ∷ ys) = ap (without_end_after texts y) (written_last x written ys) ∙ written_tail y ys x

  parts_whole : (space word : Bool) (p : RunPart) (ps : List RunPart) → are_apart space word (p ∷ ps) ≡ true
      → ends_in backslash texts (last_of (part_token p) ps) ≡ false → IsWhole (map part_item (p ∷ ps))
  parts_whole space word p [] apart ends xs = written_last (part_item p) (grind (arith, nat_tests)) xs
  parts_whole space word p (q ∷ ps) apart ends xs =
      let more = λ (s w : Bool) (h : are_apart s w (q ∷ ps) ≡ true).
      parts_whole s w q ps h ends (xs ++ part_item p ∷ []) in
      rw (← append_assoc xs (part_item p ∷ []) (map part_item (q ∷ ps))) (grind (arith, more))

  token_whole : (t : Token) → IsRunIn texts t → is_dropped_token texts t ≡ false → IsWhole (written_items texts t)
  token_whole (token.Run s) run kept xs =
      let ends = run-ends texts s run in
      rw ends.parts (parts_whole true true ends.first ends.others ends.apart (ends.last.joins ∙ run.ends) xs)
  token_whole x run kept xs = grind (arith, nat_tests, written_last)

  module _ (tokens front : List Token) (t : Token) (is : tokens ≡ front ++ t ∷ []) where
    pushed : spaced_items texts tokens ≡ spaced_items texts front ++ written_items texts t
    pushed = rw is (sym (flat_map_more (written_items texts) [] front t))

    pub dropped-at : is_dropped_token texts t ≡ true
        → without_end texts (spaced_items texts front) ≡ without_end texts (spaced_items texts tokens)
    dropped-at dropped = rw pushed (sym (grind (arith, nat_tests, append-nil, dropped_last)))

    pub written-at : IsRunIn texts t → is_dropped_token texts t ≡ false
        → without_end texts (spaced_items texts tokens) ≡ spaced_items texts tokens
    written-at run kept = rw pushed (token_whole t run kept (spaced_items texts front))
