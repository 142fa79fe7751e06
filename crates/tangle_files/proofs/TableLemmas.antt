-- A look-up in the table is a look-up among the files.
use Rattle.std.proofs.lemmas.Bool.Decides.{nat_tests}
use Rattle.std.proofs.Common.{◌≡◌, ℕ, ◌<◌, ◌||◌, false, List, [], ◌∷◌, ◌++◌, map}
use Rattle.std.proofs.Common.{refl, sym, ◌∙◌, None, Some, arith, length-append}
use Rattle.indexmap.specs.IndexMap.{insert_entry}
use Rattle.tangle_files.specs.Adding.{has_file, most_lines, add_refusal, name_refusal}
use Rattle.tangle_files.specs.Adding.{with_file, IsWithinLimits}
use Rattle.std.specs.Option.{option_map}
use Rattle.std.specs.Prelude.{position, length, slice_get, ◌≤◌}
use Rattle.std.specs.List.{position_or_len, AllZip, IsDistinct, each_same}
use Rattle.std.specs.Vec.{vec_len}
use Rattle.std.proofs.lemmas.List.{length-map, map-append, get_or-map}
use Rattle.std.proofs.lemmas.Cmp.{nat_list_eq_equiv}
use Rattle.std.proofs.lemmas.Grind.{common_steps}
use Rattle.std.proofs.lemmas.Map.Keys.{IsDistinct-push}
use Rattle.std.proofs.lemmas.Map.Made.{is_some-lookup}
use Rattle.std.proofs.lemmas.Option.{slice_get_within, get_or_from_slice_get}
use Rattle.std.proofs.lemmas.List.Elements.{All-push}
use Rattle.std.specs.Map.{lookup, set_value, remove_entry}
use Rattle.std.specs.Str.{bytes_eq}
use Rattle.std.specs.declared.vec.Vec.{Vec}
use Rattle.std.specs.Global.{Global}
use Rattle.tangle_files.specs.Lines.{FileTable, lines_of, cut}
use Rattle.tangle_files.specs.Table.{SharedLines, Table, file_of, files_of}

pub lines_of-entries : (name : List ℕ) (es : List (Vec ℕ Global × SharedLines))
    → lines_of (map file_of es) name ≡ option_map (λ v. v.value.items) (lookup (λ k. bytes_eq name k.items) es)
lines_of-entries name [] = refl
lines_of-entries name (e ∷ es) = grind (arith, nat_tests, lines_of-entries name es)

-- the lines of a table entry are within the limit
pub entry-limit : (t : Table) (n : ℕ) (e : Vec ℕ Global × SharedLines)
    → IsWithinLimits (files_of t) → Some e ≡ slice_get t.entries n → length e.1.value.items ≤ most_lines
entry-limit t n e within h =
    let below : n < length t.entries = slice_get_within t.entries n e (sym h) in
    rw (get_or-map file_of t.entries n e (file_of e) below, get_or_from_slice_get t.entries n e e (sym h))
    at (within.lines n (file_of e) (omega (arith, length-map t.entries file_of)))

-- a table without files keeps the limits
pub IsWithinLimits-none : IsWithinLimits []
unfolding IsDistinct
IsWithinLimits-none = record { count = omega arith; names = tt; lines = λ k d h. absurd (omega arith) }

-- a new name with few lines keeps the limits
pub one_more_file : (files : FileTable) (name : List ℕ) (lines : List (List ℕ)) → None ≡ name_refusal files name
    → length lines ≤ most_lines → IsWithinLimits files → IsWithinLimits (files ++ (name, lines) ∷ [])
one_more_file files name lines new few within =
    let absent : has_file files name ≡ false = grind (arith, nat_tests) in
    record {
      count = grind (arith, nat_tests, length-append files ((name, lines) ∷ []));
      names =
          rw (map-append (λ file. file.0) files ((name, lines) ∷ []))
          (IsDistinct-push nat_list_eq_equiv _ name within.names
          (sym (is_some-lookup (bytes_eq name) files) ∙ absent));
      lines = All-push (λ file. length file.1 ≤ most_lines) files (name, lines) within.lines few;
    }

-- an accepted file keeps the limits
pub IsWithinLimits-with_file : (files : FileTable) (name bytes : List ℕ)
    → None ≡ add_refusal files name bytes → IsWithinLimits files → IsWithinLimits (with_file files name bytes)
IsWithinLimits-with_file files name bytes h within =
    one_more_file files name (cut bytes) (grind (arith, nat_tests)) (grind (arith, nat_tests)) within

-- a clone of the table has the same files
pub files_of-clone : (es fs : List (Vec ℕ Global × SharedLines))
    → AllZip
    (λ p q. (AllZip (λ x y. y ≡ x) p.0.items q.0.items × (vec_len q.0 ≡ vec_len p.0)) × (q.1.value ≡ p.1.value)) es fs
    → map file_of fs ≡ map file_of es
files_of-clone [] [] h = refl
files_of-clone [] (f ∷ fs) h = absurd h
files_of-clone (e ∷ es) [] h = absurd h
files_of-clone (e ∷ es) (f ∷ fs) h = grind (arith, nat_tests, each_same e.0.items f.0.items, files_of-clone es fs h.1)

-- inserting a file with a new name appends it
pub map-insert_entry : (es : List (Vec ℕ Global × SharedLines)) (k : Vec ℕ Global) (v : SharedLines)
    → lines_of (map file_of es) k.items ≡ None
    → map file_of (insert_entry (λ x y. bytes_eq x.items y.items) es k v)
    ≡ map file_of es ++ (k.items, v.value.items) ∷ []
map-insert_entry [] k v none = refl
map-insert_entry (e ∷ es) k v none = grind (arith, nat_tests, map-insert_entry es k v)

-- setting the lines of an entry sets those of its file, and removing the entry removes it
pub map-set_value : (name : List ℕ) (es : List (Vec ℕ Global × SharedLines)) (w : SharedLines)
    → map file_of (set_value (λ k. bytes_eq name k.items) es w)
    ≡ set_value (bytes_eq name) (map file_of es) w.value.items
map-set_value name [] w = refl
map-set_value name (e ∷ es) w = grind (arith, nat_tests, map-set_value name es w)

pub map-remove_entry : (name : List ℕ) (es : List (Vec ℕ Global × SharedLines))
    → map file_of (remove_entry (λ k. bytes_eq name k.items) es) ≡ remove_entry (bytes_eq name) (map file_of es)
map-remove_entry name [] = refl
map-remove_entry name (e ∷ es) = grind (arith, nat_tests, map-remove_entry name es)

position_or_len-entries : (name : List ℕ) (es : List (Vec ℕ Global × SharedLines))
    → position_or_len (λ (f : List ℕ × List (List ℕ)). bytes_eq name f.0) (map file_of es)
    ≡ position_or_len (λ (k : Vec ℕ Global). bytes_eq name k.items) (map (λ e. e.0) es)
position_or_len-entries name [] = refl
position_or_len-entries name (e ∷ es) = grind (arith, nat_tests, position_or_len-entries name es)

-- a name is at the same position in the table as among the files
pub position-entries : (name : List ℕ) (es : List (Vec ℕ Global × SharedLines))
    → position (λ (f : List ℕ × List (List ℕ)). bytes_eq name f.0) (map file_of es)
    ≡ position (λ (k : Vec ℕ Global). bytes_eq name k.items) (map (λ e. e.0) es)
position-entries name es =
    cc (position_or_len-entries name es, length-map es file_of ∙ sym (length-map es (λ e. e.0)))

-- a table has the files of both its parts
pub has_file-append : (files more : FileTable) (name : List ℕ)
    → has_file (files ++ more) name ≡ (has_file files name || has_file more name)
has_file-append [] more name = refl
has_file-append (f ∷ files) more name = grind (arith, common_steps, has_file-append files more name)

pub ruleset look_ups = (lines_of-entries, position-entries)

pub ruleset whole_tables = (files_of-clone, IsWithinLimits-none)
