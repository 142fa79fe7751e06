-- Loading: the names for which a folder is asked, and the files that are loaded.
use Rattle.std.specs.Prelude.{ℕ, zero, suc, ◌&&◌, not, nat_lt, if◌then◌else◌}
use Rattle.std.specs.Prelude.{length, map, filter, Bool, true, false, List, [], ◌∷◌, ◌++◌, Option}
use Rattle.std.specs.Prelude.{None, Some, Result, Ok, Err}
use Rattle.tangle_files.specs.declared.refusal.Refusal.{Refusal}
use Rattle.tangle_files.specs.declared.refusal.Refusal.TheVariants.{BadName}
use Rattle.tangle_faults.specs.declared.faults.FaultKind.{FaultKind}
use Rattle.tangle_faults.specs.declared.faults.FaultKind.TheVariants.{IncludeMissing}
use Rattle.tangle_faults.specs.Faults.{FaultRead}
use Rattle.std.specs.List.{fold, list_any}
use Rattle.std.specs.Str.{bytes_eq}
use Rattle.tangle_files.specs.Lines.{FileTable}
use Rattle.tangle_files.specs.Adding.{add_refusal, with_file, is_name, most_files}
use Rattle.tangle_lines.specs.Reading.{source_of}
use Rattle.tangle_files.specs.Roles.{RolesRead}
use Rattle.tangle_folders.specs.Folder.{file_limit}

-- why loading ends without its files: a file can't be read, or is refused, or memory runs out
pub data LoadEnd : Type 0 where
  CannotRead : List ℕ → LoadEnd
  Refused : List ℕ → Refusal → LoadEnd
  NoMemory : LoadEnd

-- the loaded files, or why there are none
abbrev pub Loaded : Type 0
Loaded = Result FileTable LoadEnd

-- a file is added, unless the table refuses it
abbrev pub unless_refused : FileTable → List ℕ → List ℕ → Option Refusal → Loaded
unless_refused files name bytes None = Ok (with_file files name bytes)
unless_refused files name bytes (Some refusal) = Err (Refused name refusal)

abbrev pub add_bytes : FileTable → List ℕ → List ℕ → Loaded
add_bytes files name bytes =
    if nat_lt file_limit (length bytes) then Err (CannotRead name)
    else unless_refused files name bytes (add_refusal files name bytes)

-- What the folder has under a name is added. Where it has no file, loading ends if the file is
-- needed.
abbrev pub add_answer : Bool → FileTable → List ℕ → Option (List ℕ) → Loaded
add_answer needed files name None = if needed then Err (CannotRead name) else Ok files
add_answer needed files name (Some bytes) = add_bytes files name bytes

abbrev pub is_missing_kind : FaultKind → Bool
is_missing_kind IncludeMissing = true
is_missing_kind _ = false

-- whether a fault of reading is that an included file is missing, and its name is a file name
abbrev pub is_missed : FaultRead → Bool
is_missed fault = is_missing_kind fault.kind && is_name fault.subject

-- the missing files that inclusions name, in the order of the faults of reading
abbrev pub missed_in : List FaultRead → List (List ℕ)
missed_in faults = map (λ f. f.subject) (filter is_missed faults)

unfoldable pub missing_of : FileTable → RolesRead → List (List ℕ)
missing_of files roles = missed_in (source_of files roles).faults

abbrev pub missing_in : Loaded → RolesRead → List (List ℕ)
missing_in (Ok files) roles = missing_of files roles
missing_in (Err ending) roles = []

-- the name of the change file, if there is one and it is no file name; else the rest
abbrev pub bad_change : Option (List ℕ) → Option (List ℕ) → Option (List ℕ)
bad_change None rest = rest
bad_change (Some name) rest = if is_name name then rest else Some name

-- the first of the web, the change file and the main file whose name is no file name
abbrev pub bad_name : RolesRead → Option (List ℕ)
bad_name roles =
    if not (is_name roles.web) then Some roles.web
    else bad_change roles.change (if is_name roles.out then None else Some roles.out)

-- the name, if there is one
abbrev pub named_in : Option (List ℕ) → List (List ℕ)
named_in None = []
named_in (Some name) = name ∷ []

-- loading at a moment: the names for which the folder was asked, in order, and the files, or why
-- there are none
pub record Load : Type 0 where
  pub asked : List (List ℕ)
  pub loaded : Loaded

abbrev pub so_far : List (List ℕ) → Loaded → Load
so_far asked loaded = record { asked = asked; loaded = loaded }

-- the files of a folder: the bytes of the file of this name, if there is one
abbrev pub Contents : Type 0
Contents = List ℕ → Option (List ℕ)

module _ (contents : Contents) where
  -- The folder is asked for a name, unless it was asked for it before or loading has ended.
  abbrev pub ask : Bool → List (List ℕ) → Loaded → List ℕ → Load
  ask needed asked (Err ending) name = so_far asked (Err ending)
  ask needed asked (Ok files) name =
      if list_any (bytes_eq name) asked then so_far asked (Ok files)
      else so_far (asked ++ name ∷ []) (add_answer needed files name (contents name))

  abbrev pub ask_all : Bool → Load → List (List ℕ) → Load
  ask_all needed load names = fold (λ l name. ask needed l.asked l.loaded name) load names

  -- the first round asks for the web, and for the change file, if one is named
  abbrev pub first_round : RolesRead → Load
  first_round roles = ask_all true (so_far [] (Ok [])) (roles.web ∷ named_in roles.change)

  -- each further round reads the files, and asks for the files that inclusions miss
  abbrev pub round_after : RolesRead → Load → Load
  round_after roles load = ask_all false load (missing_in load.loaded roles)

  unfoldable pub rounds_after : RolesRead → ℕ → Load → Load
  rounds_after roles zero load = load
  rounds_after roles (suc n) load = rounds_after roles n (round_after roles load)

  abbrev pub load_unless : Option (List ℕ) → RolesRead → Load
  load_unless (Some bad) roles = so_far [] (Err (Refused bad BadName))
  load_unless None roles = rounds_after roles most_files (first_round roles)

  -- What loading asks for and gives, by these contents. Each round but the last adds a file, so
  -- these rounds are enough: one more changes nothing (`one_more_round_changes_nothing`).
  abbrev pub load_of : RolesRead → Load
  load_of roles = load_unless (bad_name roles) roles
