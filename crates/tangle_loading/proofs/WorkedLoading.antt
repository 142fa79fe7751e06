-- Worked loadings: the names that are asked for, in order, and the names of the files, or the ending.
use Rattle.std.proofs.Common.{rules}
use Rattle.std.proofs.Common.{◌≡◌, ℕ, List, [], ◌∷◌, Option, None, Some, Result, Ok, Err, codes, map}
use Rattle.tangle_files.specs.declared.refusal.Refusal.TheVariants.{BadName}
use Rattle.tangle_files.specs.Roles.{roles_of}
use Rattle.tangle_folders.specs.Folder.{File, file_bytes}
use Rattle.tangle_lines.specs.Reading.{reads_in}
use Rattle.tangle_loading.specs.Loading.{LoadEnd, Loaded, load_of, missing_of, rounds_after}
use Rattle.tangle_loading.specs.Loading.LoadEnd.{CannotRead, Refused}

-- a web that includes `b`, twice, and `c`, which is not there; `b` includes `d`
abbrev folder : List File
folder =
    (codes "a", codes "@i b\n@i c\n@i b") ∷ (codes "b", codes "@i d") ∷ (codes "d", codes "@i b")
    ∷ (codes "h", codes "@x\n@i c\n@y\n@z") ∷ []

-- the names asked for, and the names of the files, or the ending
abbrev shown : List (List ℕ) → Loaded → List (List ℕ) × Result (List (List ℕ)) LoadEnd
shown asked (Ok files) = (asked, Ok (map (λ file. file.0) files))
shown asked (Err ending) = (asked, Err ending)

abbrev loading : List ℕ → Option (List ℕ) → List (List ℕ) × Result (List (List ℕ)) LoadEnd
loading web change =
    let load = load_of (file_bytes folder) (roles_of web change (codes "o")) in shown load.asked load.loaded

abbrev names : List ℕ → List (List ℕ)
names letters = map (λ letter. letter ∷ []) letters

record Examples : Type 0 where
  pub in_rounds : loading (codes "a") None ≡ (names (codes "abcd"), Ok (names (codes "abd")))
  -- the change takes the inclusion of `c`
  pub changed : loading (codes "a") (Some (codes "h")) ≡ (names (codes "ahbd"), Ok (names (codes "ahbd")))
  pub asked_once : loading (codes "a") (Some (codes "a")) ≡ (names (codes "abcd"), Ok (names (codes "abd")))
  pub no_change_file : loading (codes "a") (Some (codes "c")) ≡ (names (codes "ac"), Err (CannotRead (codes "c")))
  pub no_web_file : loading (codes "c") (Some (codes "a")) ≡ (names (codes "c"), Err (CannotRead (codes "c")))
  pub bad_web : loading [] None ≡ ([], Err (Refused [] BadName))

examples : Examples
unfolding missing_of rounds_after reads_in
examples = search rules
