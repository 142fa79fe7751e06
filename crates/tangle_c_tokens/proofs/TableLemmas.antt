-- What adds a file or edits one brings no line feed into a table of files.
use Rattle.std.proofs.Common.{rules}
use Rattle.std.proofs.Common.{arith}
use Rattle.std.proofs.lemmas.Bool.Decides.{nat_tests}
use Rattle.std.proofs.Common.{◌≡◌, ℕ, List, [], ◌∷◌, ◌++◌, Option, None, Some}
use Rattle.std.specs.List.{AllByRecursion}
use Rattle.std.specs.Map.{remove_entry, set_value}
use Rattle.std.specs.Str.{bytes_eq}
use Rattle.tangle_files.specs.Adding.{add_refusal, name_refusal, with_file}
use Rattle.tangle_files.specs.Edited.{edited, with_replaced, with_lines_edited}
use Rattle.tangle_files.specs.Edits.{edit_refusal, refusal_in, text_refusal}
use Rattle.tangle_files.specs.Lines.{FileTable, cut, lines_of}
use Rattle.tangle_files.specs.Roles.{RolesRead}
use Rattle.tangle_files.specs.declared.edits.Edit.{Edit}
use Rattle.tangle_files.specs.declared.edits.Edit.TheVariants as edits
use Rattle.tangle_files.specs.declared.refusal.Refusal.{Refusal}
use Rattle.tangle_lines.specs.Reading.{source_of}
use Rattle.tangle_c_tokens.specs.Files.{SourceHasNoLineFeed}
use Rattle.tangle_c_tokens.specs.LineFeeds.{TextHasNoLineFeed, FilesHaveNoLineFeed}
use Rattle.tangle_c_tokens.proofs.kind_lemmas.LineFeeds.{cut_have, source_clear, trimmed-has}
use Rattle.tangle_c_tokens.proofs.ListLemmas.{all-append, all-drop, all-map, all-take}

file-more : (files : FileTable) (name : List ℕ) (lines : List (List ℕ)) → TextHasNoLineFeed name
    → AllByRecursion TextHasNoLineFeed lines → FilesHaveNoLineFeed files → FilesHaveNoLineFeed (files ++ (name, lines) ∷ [])
file-more files name lines of_name of_lines h = search (rules, all-append)

new-name : (files : FileTable) (name : List ℕ) → name_refusal files name ≡ None → TextHasNoLineFeed name
new-name files name none = grind (arith, nat_tests)

pub added_have : (files : FileTable) (name bytes : List ℕ) → add_refusal files name bytes ≡ None
    → FilesHaveNoLineFeed files → FilesHaveNoLineFeed (with_file files name bytes)
added_have files name bytes none h =
    file-more files name (cut bytes) (new-name files name (grind (arith, nat_tests))) (cut_have bytes) h

replaced-have : (lines : List (List ℕ)) (start end : ℕ) (new_lines : List (List ℕ))
    → AllByRecursion TextHasNoLineFeed new_lines → AllByRecursion TextHasNoLineFeed lines
    → AllByRecursion TextHasNoLineFeed (with_replaced lines start new_lines end)
replaced-have lines start end new_lines new h = search (rules, all-append, all-take, all-drop)

-- the lines of one file are replaced
value-set : (name : List ℕ) (files : FileTable) (lines : List (List ℕ)) → AllByRecursion TextHasNoLineFeed lines
    → FilesHaveNoLineFeed files → FilesHaveNoLineFeed (set_value (bytes_eq name) files lines)
value-set name [] lines of_lines h = h
value-set name (f ∷ files) lines of_lines h =
    let rest = value-set name files lines of_lines (record { names = h.names.1; lines = h.lines.1 }) in grind (arith, nat_tests)

found-have : (name : List ℕ) (files : FileTable) (lines : List (List ℕ)) → lines_of files name ≡ Some lines
    → FilesHaveNoLineFeed files → AllByRecursion TextHasNoLineFeed lines
found-have name [] lines is h = absurd (cc)
found-have name (f ∷ files) lines is h = grind (arith, nat_tests, found-have name files lines)

lines-edited : (files : FileTable) (name : List ℕ) (splice : List (List ℕ) → List (List ℕ))
    (refused : List (List ℕ) → Option Refusal) → refusal_in files name refused ≡ None
    → ((lines : List (List ℕ)) → refused lines ≡ None → AllByRecursion TextHasNoLineFeed lines
    → AllByRecursion TextHasNoLineFeed (splice lines))
    → FilesHaveNoLineFeed files → FilesHaveNoLineFeed (with_lines_edited files name splice)
lines-edited files name splice refused none keeps h = search (rules, value-set, found-have)

entry-removed : (name : List ℕ) (files : FileTable) → FilesHaveNoLineFeed files
    → FilesHaveNoLineFeed (remove_entry (bytes_eq name) files)
entry-removed name [] h = h
entry-removed name (f ∷ files) h = let rest = entry-removed name files (record { names = h.names.1; lines = h.lines.1 }) in search rules

text-has : (text : List ℕ) → text_refusal text ≡ None → TextHasNoLineFeed text
text-has text none = grind (arith, nat_tests)

ruleset of_edits = (lines-edited, replaced-have, trimmed-has, text-has, file-more, new-name, entry-removed)

pub edited_have : (files : FileTable) (edit : Edit) → edit_refusal files edit ≡ None
    → FilesHaveNoLineFeed files → FilesHaveNoLineFeed (edited files edit)
edited_have files (edits.Marks mode) none h = h
edited_have files edit none h =
    search (rules, nat_tests, of_edits)

-- no source line and no name of a file has one either
pub source-has : (files : FileTable) (roles : RolesRead) → FilesHaveNoLineFeed files → SourceHasNoLineFeed (source_of files roles)
source-has files roles h =
    search (rules, source_clear, all-map TextHasNoLineFeed (λ f. f.0) files h.names, h)

pub ruleset have_no_feeds = (cut_have, source_clear, added_have, edited_have)
