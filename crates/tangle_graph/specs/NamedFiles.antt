-- What is found of the files of names. Only private contracts cite these definitions.
use Rattle.std.specs.Prelude.{◌≡◌, ◌<◌, ℕ, Bool, false, ◌&&◌, List, length, slice_index_or}
use Rattle.std.specs.Global.{Global}
use Rattle.std.specs.List.{list_any, range_with_len}
use Rattle.std.specs.Str.{bytes_eq}
use Rattle.std.specs.declared.vec.Vec.{Vec}
use Rattle.tangle_names.specs.NameTable.{TableRead}
use Rattle.tangle_bodies.specs.Shapes.{Shapes}
use Rattle.tangle_graph.specs.Outputs.{form_at, is_earlier_file, is_main_file, is_named_file}
use Rattle.tangle_graph.specs.declared.named_files.NamedFiles.{NamedFiles}

-- the form is among these
abbrev pub has_form : List (Vec ℕ Global) → List ℕ → Bool
has_form forms form = list_any (λ (other : Vec ℕ Global). bytes_eq form other.items) forms

-- the two flags of the name
abbrev pub flags_at : NamedFiles → ℕ → Bool × Bool
flags_at files id = slice_index_or files.flags.items id (false, false)

module _ (shapes : Shapes) (table : TableRead) (out : List ℕ) where
  -- these are the forms of the named files among the first `n` names
  abbrev pub HaveForms : ℕ → List (Vec ℕ Global) → Type 0
  HaveForms n forms = (form : List ℕ) → has_form forms form
      ≡ list_any (λ id. is_named_file shapes table out id && bytes_eq form (form_at table id))
      (range_with_len 0 n)

  -- whether the name is the main file's, and whether it is an earlier file's
  abbrev pub flags_of : ℕ → Bool × Bool
  flags_of id = (is_main_file shapes table out id, is_earlier_file shapes table out id)

  -- each name has these flags
  abbrev pub AreFileFlags : NamedFiles → Type 0
  AreFileFlags files = (id : ℕ) → id < length table.names → flags_at files id ≡ flags_of id
