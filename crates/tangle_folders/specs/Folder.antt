-- What a folder reports to contracts, and how each call changes it.
use Rattle.std.specs.Prelude.{◌≡◌, ◌⊎◌, ◌<◌, ℕ, ◌==◌, if◌then◌else◌, List, [], ◌∷◌, ◌++◌, Option}
use Rattle.std.specs.Prelude.{Some, None, Result, Ok, Err, ⊤, IsSomeAnd, length, take}
use Rattle.std.specs.Map.{lookup}
use Rattle.std.specs.Str.{bytes_eq}
use Rattle.std.specs.declared.vec.Vec.{Vec}
use Rattle.std.specs.Global.{Global}
use Rattle.tangle_streams.specs.Streams.{one_more_failure}
use Rattle.tangle_folders.specs.declared.folder.FolderFault.{FolderFault}
use Rattle.tangle_folders.specs.declared.folder.FolderFault.TheVariants.{Missing, Failed, TooBig}
use Rattle.tangle_folders.specs.declared.folder.FolderFault.TheVariants.{NoMemory}

-- a file: its name and its bytes
abbrev pub File : Type 0
File = List ℕ × List ℕ

-- What a folder reports: the files to read, the created files, the names passed to `read_file` and
-- those at which it failed, each in order, and `None` if the folder does not report them; and the
-- count of failures, which saturates at 2^64 - 1.
pub record FolderRead : Type 0 where
  pub files : Option (List File)
  pub created : Option (List File)
  pub asked : Option (List (List ℕ))
  pub failed : Option (List (List ℕ))
  pub failures : ℕ

-- the largest size of a file that a program reads, in bytes
abbrev pub file_limit : ℕ
file_limit = 67108864

-- the bytes of the file of this name
abbrev pub file_bytes : List File → List ℕ → Option (List ℕ)
file_bytes files name = lookup (bytes_eq name) files

-- the result of `read_file` agrees with the reported files; `Failed` and `NoMemory` always do
abbrev pub IsFileAnswer : Option (List File) → List ℕ → Result (Vec ℕ Global) FolderFault → Type 0
IsFileAnswer None name result = ⊤
IsFileAnswer (Some files) name (Ok bytes) = file_bytes files name ≡ Some bytes.items
IsFileAnswer (Some files) name (Err Missing) = file_bytes files name ≡ None
IsFileAnswer (Some files) name (Err TooBig) =
    IsSomeAnd (file_bytes files name) (λ bytes. file_limit < length bytes)
IsFileAnswer (Some files) name (Err Failed) = ⊤
IsFileAnswer (Some files) name (Err NoMemory) = ⊤

-- the created files, if reported, with these appended
abbrev pub with_created : Option (List File) → List File → Option (List File)
with_created None files = None
with_created (Some old) files = Some (old ++ files)

-- the names, if reported, with this one appended
abbrev pub with_name_added : Option (List (List ℕ)) → List ℕ → Option (List (List ℕ))
with_name_added None name = None
with_name_added (Some old) name = Some (old ++ name ∷ [])

-- `read_file` appends its name to the names asked for; at `NoMemory` it may leave the name out
abbrev pub AddsAsked : Option (List (List ℕ)) → Option (List (List ℕ))
    → List ℕ → Result (Vec ℕ Global) FolderFault → Type 0
AddsAsked old new name (Ok bytes) = new ≡ with_name_added old name
AddsAsked old new name (Err Missing) = new ≡ with_name_added old name
AddsAsked old new name (Err TooBig) = new ≡ with_name_added old name
AddsAsked old new name (Err Failed) = new ≡ with_name_added old name
AddsAsked old new name (Err NoMemory) = (new ≡ old) ⊎ (new ≡ with_name_added old name)

-- the names at which `read_file` failed, if reported: `Failed` appends this one
abbrev pub with_failed : Option (List (List ℕ)) → List ℕ → Result (Vec ℕ Global) FolderFault
    → Option (List (List ℕ))
with_failed old name (Ok bytes) = old
with_failed old name (Err Missing) = old
with_failed old name (Err TooBig) = old
with_failed old name (Err Failed) = with_name_added old name
with_failed old name (Err NoMemory) = old

-- a new writer of a folder that reports its created files reports its bytes, and has none yet
abbrev pub Begins : Option (List File) → Option (List ℕ) → Type 0
Begins None taken = ⊤
Begins (Some files) taken = taken ≡ Some []

-- the files, with the bytes of the last one replaced
abbrev pub with_last : List File → List ℕ → List File
with_last [] bytes = []
with_last (f ∷ []) bytes = (f.0, bytes) ∷ []
with_last (f ∷ (g ∷ rest)) bytes = f ∷ with_last (g ∷ rest) bytes

-- after `close`, the file created last has the bytes of the writer
abbrev pub Closes : Option (List File) → Option (List File) → Option (List ℕ) → Type 0
Closes None new taken = new ≡ None
Closes (Some files) new None = ⊤
Closes (Some files) new (Some bytes) = new ≡ Some (with_last files bytes)

-- after a refused `close`, the file created last has a prefix of the bytes of the writer
abbrev pub ClosesWithin : Option (List File) → Option (List File) → Option (List ℕ) → Type 0
ClosesWithin None new taken = new ≡ None
ClosesWithin (Some files) new None = ⊤
ClosesWithin (Some files) new (Some bytes) = (n : ℕ) × (new ≡ Some (with_last files (take n bytes)))

-- the count of failures after `read_file`: `Failed` adds one
abbrev pub after_read : Result (Vec ℕ Global) FolderFault → ℕ → ℕ
after_read (Ok bytes) n = n
after_read (Err Failed) n = one_more_failure n
after_read (Err Missing) n = n
after_read (Err TooBig) n = n
after_read (Err NoMemory) n = n

-- the count of failures after `create`: each fault but `NoMemory` adds one
abbrev pub after_refusal : {T : Type 0} → Result T FolderFault → ℕ → ℕ
after_refusal (Ok out) n = n
after_refusal (Err NoMemory) n = n
after_refusal (Err Missing) n = one_more_failure n
after_refusal (Err Failed) n = one_more_failure n
after_refusal (Err TooBig) n = one_more_failure n

-- the count of failures after `close`: a fault adds one, and so does `Ok` for a writer that failed
abbrev pub after_close : {T : Type 0} → Result T FolderFault → ℕ → ℕ → ℕ
after_close (Ok done) failures n = if failures == 0 then n else one_more_failure n
after_close (Err fault) failures n = one_more_failure n
