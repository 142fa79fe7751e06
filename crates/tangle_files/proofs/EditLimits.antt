-- An edit that is not refused keeps the limits of a table.
use Rattle.std.proofs.Common.{rules}
use Rattle.std.proofs.lemmas.Bool.Decides.{nat_tests}
use Rattle.std.proofs.Common.{◌≡◌, ℕ, ◌+◌, ◌-◌, ◌≤◌, false, List, [], ◌∷◌}
use Rattle.std.proofs.Common.{Option, None, Some, IfSome, arith, length, length-append}
use Rattle.std.specs.List.{All, IsDistinct}
use Rattle.std.specs.Option.{option_map_or}
use Rattle.std.specs.Map.{set_value, remove_entry, values_of}
use Rattle.std.specs.Str.{bytes_eq}
use Rattle.std.proofs.lemmas.Bool.{cond_both}
use Rattle.std.proofs.lemmas.List.{length-drop, length-map, get_or-map}
use Rattle.std.proofs.lemmas.List.Elements.{All-map}
use Rattle.std.proofs.lemmas.List.Elements.{All-from_recursion, recursion_from_All}
use Rattle.std.proofs.lemmas.Map.{length-set_value, keys-set_value}
use Rattle.std.proofs.lemmas.Map.Entries.{All-lookup}
use Rattle.std.proofs.lemmas.Map.Views.{All-values-set_value, All-map-remove_entry}
use Rattle.tangle_files.specs.declared.edits.Edit.{Edit}
use Rattle.tangle_files.specs.declared.edits.Edit.TheVariants.{Insert, Remove, Replace, Create, Discard, Marks}
use Rattle.tangle_files.specs.declared.refusal.Refusal.{Refusal}
use Rattle.tangle_files.specs.declared.refusal.Refusal.TheVariants.{UnknownFile}
use Rattle.tangle_files.specs.Lines.{FileTable, lines_of}
use Rattle.tangle_files.specs.Adding.{most_lines, HasDistinctNames, IsWithinLimits}
use Rattle.tangle_files.specs.Edits.{edit_refusal, refusal_in}
use Rattle.tangle_files.specs.Edited.{edited, with_replaced, with_lines_edited}
use Rattle.tangle_files.proofs.TableLemmas.{one_more_file}

abbrev HasFewLines : (List ℕ × List (List ℕ)) → Type 0
HasFewLines file = length file.1 ≤ most_lines

-- the limit of lines, from the lists of lines to the files
few-files : (files : FileTable) → All (λ lines. length lines ≤ most_lines) (values_of files) → All HasFewLines files
few-files files h = λ k d below. search (rules, get_or-map, length-map, h k d.1)

few-values : (files : FileTable) → All HasFewLines files → All (λ lines. length lines ≤ most_lines) (values_of files)
few-values files h = All-map (λ lines. length lines ≤ most_lines) (λ file. file.1) files h

-- an edit of lines that is not refused keeps the limits, if the lines that it leaves are within their limit
edited-lines : (files : FileTable) (name : List ℕ)
    (of_lines : List (List ℕ) → Option Refusal) (splice : List (List ℕ) → List (List ℕ))
    → ((lines : List (List ℕ)) → None ≡ of_lines lines → length lines ≤ most_lines
    → length (splice lines) ≤ most_lines) → None ≡ refusal_in files name of_lines → IsWithinLimits files
    → IsWithinLimits (with_lines_edited files name splice)
edited-lines files name of_lines splice few h within =
    by (lines_of files name) (search rules)
    (All-lookup (λ lines. length lines ≤ most_lines) (bytes_eq name) files within.lines)
  where
    by : (o : Option (List (List ℕ))) → None ≡ option_map_or of_lines o (Some UnknownFile)
        → IfSome o (λ lines. length lines ≤ most_lines)
        → IsWithinLimits (option_map_or (λ lines. set_value (bytes_eq name) files (splice lines)) o files)
    by (Some lines) accepted old = record {
      count = rw (length-set_value (bytes_eq name) files (splice lines)) within.count;
      names = rw (keys-set_value (bytes_eq name) files (splice lines)) within.names;
      lines = few-files (set_value (bytes_eq name) files (splice lines))
          (All-values-set_value (bytes_eq name) (λ lines. length lines ≤ most_lines) files (splice lines)
          (few-values files within.lines) (few lines accepted old));
    }
    by None accepted old = within

length-with_replaced : (lines : List (List ℕ)) (start : ℕ) (new_lines : List (List ℕ)) (end : ℕ)
    → start ≤ length lines → length (with_replaced lines start new_lines end) ≡ (start + length new_lines) + (length lines - end)
length-with_replaced lines start new_lines end within = search (rules, length-append, length-drop)

length-remove_entry : (files : FileTable) (name : List ℕ) → length (remove_entry (bytes_eq name) files) ≤ length files
length-remove_entry [] name = omega arith
length-remove_entry (f ∷ fs) name = grind (arith, nat_tests, length-remove_entry fs name)

distinct-remove_entry : (files : FileTable) (name : List ℕ)
    → HasDistinctNames files → HasDistinctNames (remove_entry (bytes_eq name) files)
unfolding IsDistinct
distinct-remove_entry [] name h = h
distinct-remove_entry (f ∷ fs) name h =
    cond_both (bytes_eq name f.0) fs (f ∷ remove_entry (bytes_eq name) fs) HasDistinctNames (λ _. h.1)
    (λ _. (
      recursion_from_All _ _
          (All-map-remove_entry (bytes_eq name) (λ file. file.0) (λ other. bytes_eq f.0 other ≡ false) fs
          (All-from_recursion _ _ h.0)),
      distinct-remove_entry fs name h.1,
    ))

-- an edit that is not refused keeps the limits
pub IsWithinLimits-edited : (files : FileTable) (edit : Edit)
    → None ≡ edit_refusal files edit → IsWithinLimits files → IsWithinLimits (edited files edit)
IsWithinLimits-edited files (Insert file at text) h within =
    edited-lines files file.items _ _ (λ lines h few. search (rules, length-with_replaced)) h within
IsWithinLimits-edited files (Remove file at) h within =
    edited-lines files file.items _ _ (λ lines h few. search (rules, length-with_replaced)) h within
IsWithinLimits-edited files (Replace file at text) h within =
    edited-lines files file.items _ _ (λ lines h few. search (rules, length-with_replaced)) h within
IsWithinLimits-edited files (Create file) h within = one_more_file files file.items [] h (omega arith) within
IsWithinLimits-edited files (Discard file) h within =
    let less = length-remove_entry files file.items in
    record {
      count = omega (arith, within.count);
      names = distinct-remove_entry files file.items within.names;
      lines = few-files (remove_entry (bytes_eq file.items) files)
          (All-map-remove_entry (bytes_eq file.items) (λ file. file.1) (λ lines. length lines ≤ most_lines) files
          (few-values files within.lines));
    }
IsWithinLimits-edited files (Marks mode) h within = within
