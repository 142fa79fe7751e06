-- What a file of the folder does to the table of files.
use Rattle.std.proofs.lemmas.Bool.Decides.{nat_tests}
use Rattle.std.proofs.Common.{rules}
use Rattle.std.proofs.Common.{◌≡◌, ◌∙◌, ◌⊎◌, ℕ, ◌≤◌, ◌<◌, Bool, true, false, ◌||◌, List, [], ◌∷◌, ◌++◌}
use Rattle.std.proofs.Common.{Option, None, Result, Ok, Err, ap, sym, refl, length, length-append, map}
use Rattle.std.proofs.Common.{append_assoc, append-nil, arith}
use Rattle.std.specs.Prelude.{IfSome, IfNone, IsOkUnless}
use Rattle.std.specs.List.{list_any}
use Rattle.tangle_files.specs.declared.refusal.Refusal.{Refusal}
use Rattle.tangle_files.specs.declared.refusal.Refusal.TheVariants.{NoMemory as RefusalMemory}
use Rattle.tangle_files.specs.Lines.{FileTable}
use Rattle.tangle_files.specs.Adding.{add_refusal, has_file, most_files}
use Rattle.tangle_files.specs.Roles.{RolesRead, fits}
use Rattle.tangle_files.proofs.TableLemmas.{has_file-append}
use Rattle.tangle_folders.specs.Folder.{file_limit}
use Rattle.tangle_loading.specs.Loading.{LoadEnd, add_answer, add_bytes}
use Rattle.tangle_loading.specs.Endings.{IsGiven, refused_as}

-- the table refuses a file
abbrev failed : {T : Type 0} → Refusal → Result T Refusal
failed refusal = Err refusal

pub refused_bytes : (T : Type 0) (files : FileTable) (name bytes : List ℕ)
    (refusal : Refusal) (given : LoadEnd) (o : Option Refusal)
    → add_refusal files name bytes ≡ o → length bytes ≤ file_limit
    → IfSome o (λ e. failed {T = T} refusal ≡ Err e) → IfNone o (IsOkUnless (failed {T = T} refusal) RefusalMemory)
    → IsGiven (Err (refused_as name refusal)) (Err given) → IsGiven (add_bytes files name bytes) (Err given)
refused_bytes T files name bytes refusal given o is small some none which = search rules

-- a table that has the old files, and perhaps others after them
abbrev pub Grows : FileTable → FileTable → Type 0
Grows old new = (more : FileTable) × (new ≡ old ++ more)

pub stays : (files next : FileTable) → next ≡ files → Grows files next
stays files next e = ([], e ∙ sym (append-nil files))

pub grows_then : (a b c : FileTable) → Grows a b → Grows b c → Grows a c
grows_then a b c g h = (g.0 ++ h.0, h.1 ∙ ap (λ t. t ++ h.0) g.1 ∙ append_assoc a g.0 h.0)

pub grows_by : (needed : Bool) (files next : FileTable) (name : List ℕ) (answer : Option (List ℕ))
    → add_answer needed files name answer ≡ Ok next → Grows files next
grows_by needed files next name answer e = search (rules, stays)

-- a table that has grown and is no longer is the same table
pub same_table : (files next : FileTable) → Grows files next → length next ≤ length files → next ≡ files
same_table files next ([], is) same = is ∙ append-nil files
same_table files next (x ∷ more, is) same = absurd (omega (arith, ap length is, length-append files (x ∷ more)))

pub longer : (files next : FileTable) → Grows files next → (length next ≡ length files → ⊥) → length files < length next
longer files next g other = omega (arith, ap length g.1, length-append files g.0)

pub grows_there : (old new : FileTable) (name : List ℕ)
    → Grows old new → has_file old name ≡ true → has_file new name ≡ true
grows_there old new name g h = search (rules, has_file-append)

pub grows_fits : (old new : FileTable) (roles : RolesRead)
    → Grows old new → fits old roles ≡ true → fits new roles ≡ true
grows_fits old new roles g h = search (rules, grows_there)

-- the file of a name that was asked for is in the table, or the folder has none
pub there : (needed : Bool) (files next : FileTable) (name : List ℕ) (answer : Option (List ℕ))
    → add_answer needed files name answer ≡ Ok next
    → (has_file next name ≡ true) ⊎ ((needed ≡ false) × (answer ≡ None))
there needed files next name answer e = search (rules, has_file-append)

-- the table never has more files than it may have
pub within : (needed : Bool) (files next : FileTable) (name : List ℕ) (answer : Option (List ℕ))
    → add_answer needed files name answer ≡ Ok next → length files ≤ most_files → length next ≤ most_files
within needed files next name answer e few = grind (arith, nat_tests, length-append)

-- whether an element passes a test is whether one of the values does that the elements give
pub list_any-map : {X Y : Type 0} (p : Y → Bool) (f : X → Y) (xs : List X)
    → list_any (λ x. p (f x)) xs ≡ list_any p (map f xs)
list_any-map p f [] = refl
list_any-map p f (x ∷ xs) = ap (λ b. p (f x) || b) (list_any-map p f xs)
