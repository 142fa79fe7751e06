-- The output files of a web: the main file, and the named ones.
use Rattle.std.specs.Prelude.{ℕ, suc, Bool, true, false, not, ◌&&◌, ◌||◌, nat_lt, nat_le}
use Rattle.std.specs.Prelude.{if◌then◌else◌, List, [], ◌∷◌, ◌++◌, length, map, filter, flat_map}
use Rattle.std.specs.Prelude.{slice_index_or, is_some, Option, None}
use Rattle.std.specs.List.{list_any, range_with_len}
use Rattle.std.specs.Str.{bytes_eq}
use Rattle.tangle_scan.specs.Web.{WebRead}
use Rattle.tangle_names.specs.NameTable.{TableRead}
use Rattle.tangle_names.specs.declared.Resolved.{Resolved}
use Rattle.tangle_names.specs.declared.Resolved.TheVariants.{Name}
use Rattle.tangle_bodies.specs.Shapes.{Title, Program, Named, Shape, Shapes}
use Rattle.tangle_bodies.specs.Flat.{weight, depth}
use Rattle.tangle_expansion.specs.Limits.{levels, heaviest}
use Rattle.tangle_expansion.specs.Outputs.{OutputRead}
use Rattle.tangle_bodies.specs.WebShapes.{name_at, resolved_at, shapes}
use Rattle.digraph.specs.Nodes.{program}
use Rattle.tangle_graph.specs.Grouping.{has_number_in}
use Rattle.tangle_graph.specs.PlainForms.{plain_form}

-- the node with this shape has a piece
abbrev pub shape_has_piece : Shape → Bool
shape_has_piece [] = false
shape_has_piece (piece ∷ pieces) = true

-- the node with this title has a piece and is within both limits
abbrev pub is_expandable : Shapes → Title → Bool
is_expandable shapes title =
    shape_has_piece (shapes title)
    && (nat_lt (depth levels shapes title) levels && nat_le (weight levels shapes title) heaviest)

-- the number of the name's first occurrence with `@(`, if it has one
abbrev pub first_file_occurrence : TableRead → ℕ → Option ℕ
first_file_occurrence table id = slice_index_or table.first_file_occurrences id None

-- the name to which an occurrence resolves, if to one
abbrev pub names_resolved : Resolved → List ℕ
names_resolved (Name id) = id ∷ []
names_resolved _ = []

-- the name that has its first occurrence with `@(` here, if one has
abbrev pub first_file_name : TableRead → ℕ → List ℕ
first_file_name table occurrence =
    filter (λ id. has_number_in occurrence (first_file_occurrence table id))
    (names_resolved (resolved_at table occurrence))

-- the names with an occurrence that begins with `@(`, in the order of their first ones
abbrev pub file_names : WebRead → TableRead → List ℕ
file_names web table =
    flat_map (first_file_name table) (range_with_len 0 (length web.occurrences))

abbrev pub named_file : TableRead → ℕ → OutputRead
named_file table id = record {
  name = name_at table id;
  node = suc id;
  has_macros = false;
  has_piece = true;
}

-- the plain form of a name
abbrev pub form_at : TableRead → ℕ → List ℕ
form_at table id = plain_form (name_at table id)

-- the name is that of a file: an occurrence of it begins with `@(`, and it has a piece
abbrev pub is_file : Shapes → TableRead → ℕ → Bool
is_file shapes table id =
    is_some (first_file_occurrence table id)
    && shape_has_piece (shapes (Named (name_at table id)))

-- Files that have the name of another file, for a main file of the name `out`. Names are compared by
-- their plain forms.
module _ (shapes : Shapes) (table : TableRead) (out : List ℕ) where
  -- the file is the main file
  abbrev pub is_main_file : ℕ → Bool
  is_main_file id = is_file shapes table id && bytes_eq (form_at table id) (plain_form out)

  -- the file is not the main file
  abbrev pub is_named_file : ℕ → Bool
  is_named_file id = is_file shapes table id && not (bytes_eq (form_at table id) (plain_form out))

  -- the file is that of an earlier name, and not the main file
  abbrev pub is_earlier_file : ℕ → Bool
  is_earlier_file id =
      is_named_file id
      && list_any
      (λ earlier. is_named_file earlier && bytes_eq (form_at table id) (form_at table earlier))
      (range_with_len 0 id)

module _ (web : WebRead) (table : TableRead) (out : List ℕ) where
  abbrev pub main_output : OutputRead
  main_output = record {
    name = out;
    node = program;
    has_macros = not web.has_all_macros;
    has_piece = shape_has_piece (shapes web table Program);
  }

  -- the main file, unless the program has a piece and is not expandable
  abbrev pub main_file : List OutputRead
  main_file =
      if not (shape_has_piece (shapes web table Program))
      || is_expandable (shapes web table) Program
      then main_output ∷ []
      else []

  -- the name has a file of its own, which can be written
  abbrev pub is_written : ℕ → Bool
  is_written id =
      is_expandable (shapes web table) (Named (name_at table id))
      && not (is_main_file (shapes web table) table out id
      || is_earlier_file (shapes web table) table out id)

  -- the main file first, and then the named ones in the order of their first file occurrences
  abbrev pub outputs : List OutputRead
  outputs = main_file ++ map (named_file table) (filter is_written (file_names web table))
