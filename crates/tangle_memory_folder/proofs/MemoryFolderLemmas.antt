-- The files of a folder in memory, and the one created last.
use Rattle.std.proofs.lemmas.Bool.Decides.{nat_tests}
use Rattle.std.proofs.Common.{◌≡◌, ◌≢◌, ℕ, zero, suc, ◌+◌, cond, List, [], ◌∷◌, map}
use Rattle.std.proofs.Common.{length, slice_set, slice_index_or, arith, ap, refl, None, Some}
use Rattle.std.specs.Option.{option_map}
use Rattle.std.specs.Map.{lookup}
use Rattle.std.specs.Str.{bytes_eq}
use Rattle.indexmap.specs.IndexMap.{insert_entry}
use Rattle.std.proofs.lemmas.Slice.Eq.{bytes_eq-Decides}
use Rattle.std.specs.declared.vec.Vec.{Vec}
use Rattle.std.specs.Global.{Global}
use Rattle.tangle_folders.specs.Folder.{file_bytes, with_last}
use Rattle.tangle_memory_folder.specs.MemoryFolder.{created_file, stored_file}
use Rattle.tangle_memory_folder.specs.declared.memory_folder.CreatedFile.{CreatedFile}

pub last_set : (xs : List CreatedFile) (n : ℕ) (e d : CreatedFile)
    → length xs ≡ n + 1 → e.name ≡ (slice_index_or xs n d).name
    → map created_file (slice_set xs n e) ≡ with_last (map created_file xs) e.bytes.items
last_set (x ∷ []) zero e d len same = ap (λ name. (name.items, e.bytes.items) ∷ []) same
last_set (x ∷ y ∷ rest) (suc n) e d len same =
    let less : length (y ∷ rest) ≡ n + 1 = omega arith in
    ap (λ l. created_file x ∷ l) (last_set (y ∷ rest) n e d less same)
last_set xs n e d len same = absurd (omega arith)

pub file_bytes-entries : (name : List ℕ) (es : List (Vec ℕ Global × Vec ℕ Global))
    → file_bytes (map stored_file es) name ≡ option_map (λ v. v.items) (lookup (λ k. bytes_eq name k.items) es)
file_bytes-entries name [] = refl
file_bytes-entries name (e ∷ es) =
    grind (arith, nat_tests, file_bytes-entries name es)

-- a look-up finds the file that was put
pub put_found : (es : List (Vec ℕ Global × Vec ℕ Global)) (k v : Vec ℕ Global)
    → file_bytes (map stored_file (insert_entry (λ a b. bytes_eq a.items b.items) es k v)) k.items ≡ Some v.items
put_found [] k v = ap (λ b. cond b (Some v.items) None) ((bytes_eq-Decides k.items k.items).1 refl)
put_found (e ∷ es) k v = grind (arith, nat_tests, put_found es k v)

-- putting a file changes no look-up of another name
pub put_leaves : (es : List (Vec ℕ Global × Vec ℕ Global)) (k v : Vec ℕ Global) (name : List ℕ) → name ≢ k.items
    → file_bytes (map stored_file (insert_entry (λ a b. bytes_eq a.items b.items) es k v)) name
    ≡ file_bytes (map stored_file es) name
put_leaves [] k v name other = grind (arith, nat_tests, bytes_eq-Decides name k.items)
put_leaves (e ∷ es) k v name other =
    let key = bytes_eq-Decides k.items e.0.items in
    grind (arith, nat_tests, put_leaves es k v name, bytes_eq-Decides name k.items, key, bytes_eq-Decides name e.0.items)
