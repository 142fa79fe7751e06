-- How loading leaves its folder, and what it gives: the files of `load_of`, or why there are none.
use Rattle.std.specs.Prelude.{◌≡◌, ◌⊎◌, ℕ, Bool, false, List, [], ◌∷◌, ◌++◌, Option, is_none}
use Rattle.std.specs.Prelude.{None, Some, IfSome, Result, Ok, Err}
use Rattle.std.specs.List.{fold, list_any}
use Rattle.std.specs.Str.{bytes_eq}
use Rattle.std.specs.Result.{result_map_both}
use Rattle.tangle_files.specs.declared.refusal.Refusal.{Refusal}
use Rattle.tangle_files.specs.declared.refusal.Refusal.TheVariants.{NoMemory as RefusalMemory}
use Rattle.tangle_files.specs.Lines.{FileTable, file_number, lines_at}
use Rattle.tangle_files.specs.Roles.{RolesRead}
use Rattle.tangle_lines.specs.Inclusion.{included_name}
use Rattle.tangle_streams.specs.Streams.{one_more_failure}
use Rattle.tangle_folders.specs.Folder.{FolderRead, file_bytes, with_name_added}
use Rattle.tangle_loading.specs.declared.loading.LoadFault.{LoadFault}
use Rattle.tangle_loading.specs.declared.loading.LoadFault.TheVariants as fault
use Rattle.tangle_loading.specs.Loading.{Contents, Load, LoadEnd, Loaded, ask_all}
use Rattle.tangle_loading.specs.Loading.{load_of, rounds_after, so_far}
use Rattle.tangle_loading.specs.Loading.LoadEnd.{CannotRead, NoMemory, Refused}

-- the folder after it was asked for these names; nothing else in it changes
abbrev pub after_asking : FolderRead → List (List ℕ) → FolderRead
after_asking folder names = record folder { asked = fold with_name_added folder.asked names }

-- the folder after it failed at this name, for which it was asked
abbrev pub after_failing : FolderRead → List ℕ → FolderRead
after_failing folder name = record folder {
  failed = with_name_added folder.failed name;
  failures = one_more_failure folder.failures;
}

-- the contents are those of the folder, if it reports its files
abbrev pub HasContents : FolderRead → Contents → Type 0
HasContents folder contents = IfSome folder.files (λ files. contents ≡ file_bytes files)

-- this was given as expected, or memory ran out
abbrev pub IsGiven : Loaded → Loaded → Type 0
IsGiven expected loaded = (loaded ≡ expected) ⊎ (loaded ≡ Err NoMemory)

-- why there are no files; `load` is loading to its end, by the contents of the folder
pub data EndsEarly (load : Load) (old new : FolderRead) (ending : LoadEnd) : Type 0 where
  -- loading to its end gives this ending
  IsItsEnd : load.loaded ≡ Err ending → new ≡ after_asking old load.asked
      → EndsEarly load old new ending
  -- the folder failed at the last name for which it was asked
  HasFailed : (front rest : List (List ℕ)) (name : List ℕ) → load.asked ≡ front ++ name ∷ rest
      → new ≡ after_failing (after_asking old (front ++ name ∷ [])) name
      → IsGiven (Err (CannotRead name)) (Err ending) → EndsEarly load old new ending
  -- memory ran out
  IsShort : (front rest : List (List ℕ)) → load.asked ≡ front ++ rest
      → new ≡ after_asking old front → ending ≡ NoMemory → EndsEarly load old new ending

-- what loading gave, and how it left the folder: the names for which it asked, and the files, are
-- those of loading to its end
abbrev pub Gives : Load → FolderRead → FolderRead → Loaded → Type 0
Gives load old new (Ok files) =
    (load.loaded ≡ Ok files) × (new ≡ after_asking old load.asked)
Gives load old new (Err ending) = EndsEarly load old new ending

-- loading by these names gave this
pub record LoadGives (roles : RolesRead) (old new : FolderRead) (loaded : Loaded) : Type 0 where
  pub contents : Contents
  pub are_its : HasContents old contents
  pub gives : Gives (load_of contents roles) old new loaded

abbrev pub ending_of : LoadFault → LoadEnd
ending_of (fault.CannotRead name) = CannotRead name.items
ending_of (fault.Refused name refusal) = Refused name.items refusal
ending_of fault.NoMemory = NoMemory

-- the files, or why there are none, after a call with this result
abbrev pub given : {T : Type 0} → FileTable → Result T LoadFault → Loaded
given files result = result_map_both (λ done. files) ending_of result

-- the loading of which a step is a part: the folder with which it begins, its roles, and the number
-- of rounds after its first names; `final` is its end, by the contents of the folder
pub record WholeLoading : Type 0 where
  pub start : FolderRead
  pub roles : RolesRead
  pub rounds : ℕ
  pub final : Contents → Load

-- The folder was asked for these names since loading began. `known` puts what it answered into any
-- contents; it leaves other names as they are.
pub record Knows (start : FolderRead) (known : Contents → Contents) (asked : List (List ℕ))
    (now : FolderRead) : Type 0 where
  pub folder : now ≡ after_asking start asked
  pub are_its : (contents : Contents) → HasContents start contents
      → HasContents start (known contents)
  pub others : (name : List ℕ) → list_any (bytes_eq name) asked ≡ false
      → (contents : Contents) → known contents name ≡ contents name

-- with what is known put into any contents, these names are left, and then the rounds
pub record Stands (whole : WholeLoading) (needed : Bool) (names : List (List ℕ)) (now : FolderRead)
    (load : Load) : Type 0 where
  pub known : Contents → Contents
  pub knows : Knows whole.start known load.asked now
  pub leads : (contents : Contents) → whole.final (known contents)
      ≡ rounds_after (known contents) whole.roles whole.rounds
      (ask_all (known contents) needed load names)

-- loading has ended early
abbrev pub HasEndedEarly : WholeLoading → FolderRead → LoadEnd → Type 0
HasEndedEarly whole now ending =
    (contents : Contents) × HasContents whole.start contents
    × EndsEarly (whole.final contents) whole.start now ending

abbrev pub StandsOrEnds : WholeLoading → Bool → List (List ℕ) → FolderRead → List (List ℕ) → Loaded
    → Type 0
StandsOrEnds whole needed names now asked (Ok files) =
    Stands whole needed names now (so_far asked (Ok files))
StandsOrEnds whole needed names now asked (Err ending) = HasEndedEarly whole now ending

-- a step of loading, which asks for these names until others are left, whatever comes later
pub record Step (needed : Bool) (names left : List (List ℕ)) (old : FolderRead) (before : Load)
    (new : FolderRead) (after : Load) : Type 0 where
  pub to : (whole : WholeLoading) (later : List (List ℕ))
      → Stands whole needed (names ++ later) old before
      → StandsOrEnds whole needed (left ++ later) new after.asked after.loaded

-- whether a line includes a file that isn't in the table
abbrev pub misses_name : FileTable → Option (List ℕ) → Bool
misses_name files None = false
misses_name files (Some name) = is_none (file_number files name)

abbrev pub misses_file : FileTable → List ℕ → Bool
misses_file files line = misses_name files (included_name line)

-- no line of a file includes a file that isn't in the table
abbrev pub IncludesNoMissing : FileTable → Type 0
IncludesNoMissing files = (n : ℕ) → list_any (misses_file files) (lines_at files n) ≡ false

-- the ending of a loading in which the table refused a file
abbrev pub refused_as : List ℕ → Refusal → LoadEnd
refused_as name RefusalMemory = NoMemory
refused_as name refusal = Refused name refusal
