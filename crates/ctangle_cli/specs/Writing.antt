-- The outputs of a session in the folder, and which prefix of an output was created.
use Rattle.std.specs.Prelude.{◌≡◌, ◌⊎◌, ℕ, List, [], ◌∷◌, Option, take, unwrap_or}
use Rattle.tangle_files.specs.Lines.{FileTable}
use Rattle.tangle_files.specs.Roles.{RolesRead}
use Rattle.tangle_session.specs.Headline.{output_at}
use Rattle.tangle_folders.specs.Folder.{File, with_created}

-- the output of this name, with its bytes, where tangling the files gives one
abbrev pub output_file : FileTable → RolesRead → List ℕ → File
output_file files roles name = (name, unwrap_or (output_at files roles name) [])

-- nothing of this file was created, or a file with a prefix of its bytes
abbrev pub IsPrefixOf : File → List File → Type 0
IsPrefixOf file prefix = (prefix ≡ []) ⊎ ((n : ℕ) × (prefix ≡ (file.0, take n file.1) ∷ []))

-- nothing was created besides, or a prefix of the file
abbrev pub AddsPrefix : Option (List File) → Option (List File) → File → Type 0
AddsPrefix old new file =
    (prefix : List File) × IsPrefixOf file prefix × (new ≡ with_created old prefix)
