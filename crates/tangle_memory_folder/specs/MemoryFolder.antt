-- What a folder in memory reports.
use Rattle.std.specs.Prelude.{ℕ, ◌-◌, ◌==◌, Bool, false, if◌then◌else◌, List, Option, None, Some}
use Rattle.std.specs.Prelude.{map}
use Rattle.std.specs.declared.hash.FoldHasher.{FoldHasher}
use Rattle.std.specs.declared.hash.BuildHasherDefault.{BuildHasherDefault}
use Rattle.std.specs.declared.vec.Vec.{Vec}
use Rattle.std.specs.Global.{Global}
use Rattle.indexmap.specs.IndexMap.{IndexMap}
use Rattle.tangle_folders.specs.Folder.{File}
use Rattle.tangle_memory_folder.specs.declared.memory_folder.CreatedFile.{CreatedFile}

-- a file that was created: its name and its bytes
abbrev pub created_file : CreatedFile → File
created_file file = (file.name.items, file.bytes.items)

-- the bytes of each name
abbrev pub bytes_of_each : List (Vec ℕ Global) → List (List ℕ)
bytes_of_each names = map (λ (name : Vec ℕ Global). name.items) names

-- the table of files in memory
abbrev pub StoredFiles : Type 0
StoredFiles = IndexMap (Vec ℕ Global) (Vec ℕ Global) (BuildHasherDefault FoldHasher)

-- a file of the table: its name and its bytes
abbrev pub stored_file : (Vec ℕ Global × Vec ℕ Global) → File
stored_file e = (e.0.items, e.1.items)

abbrev pub stored_files : StoredFiles → List File
stored_files table = map stored_file table.entries

-- this call fails; the number is that of the calls that pass before the failing one
abbrev pub fails_now : Option ℕ → Bool
fails_now None = false
fails_now (Some n) = n == 0

-- the number of calls before the failing one, after one call; a folder fails once
abbrev pub after_call : Option ℕ → Option ℕ
after_call None = None
after_call (Some n) = if n == 0 then None else Some (n - 1)
