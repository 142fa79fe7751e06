-- The faults of the graph of names: a name is undefined, never used, contains itself, is too large,
-- or is that of the main file or of an earlier file; or the program is too large or has no piece.
use Rattle.std.specs.Prelude.{ℕ, suc, Bool}
use Rattle.std.specs.Prelude.{not, ◌&&◌, List, [], ◌∷◌, ◌++◌, length}
use Rattle.std.specs.Prelude.{map, flat_map, slice_get, slice_index_or, Option, Some, None}
use Rattle.std.specs.Prelude.{option_to_list, is_some, position, if◌then◌else◌}
use Rattle.std.specs.List.{range_with_len}
use Rattle.digraph.specs.Nodes.{Node, program}
use Rattle.tangle_faults.specs.declared.faults.FaultKind.{FaultKind}
use Rattle.tangle_faults.specs.declared.faults.FaultKind.TheVariants as kind
use Rattle.tangle_faults.specs.Faults.{FaultRead, fault_about, fault_unplaced}
use Rattle.tangle_scan.specs.Web.{WebRead}
use Rattle.tangle_names.specs.Faults.{named_place_of}
use Rattle.tangle_names.specs.NameTable.{TableRead}
use Rattle.tangle_names.specs.Numbers.{is_number, is_use}
use Rattle.tangle_names.specs.Resolving.{resolve}
use Rattle.tangle_bodies.specs.Shapes.{Named}
use Rattle.tangle_bodies.specs.WebShapes.{name_at, shapes}
use Rattle.tangle_bodies.specs.Nodes.{title_at}
use Rattle.tangle_graph.specs.Cycles.{contains_itself, reaches_cycle}
use Rattle.tangle_graph.specs.Outputs.{shape_has_piece, is_expandable, first_file_occurrence}
use Rattle.tangle_graph.specs.Outputs.{is_earlier_file, is_main_file}

-- a fault about a name, at the occurrence with this number, or none where there is no number
module _ (web : WebRead) (table : TableRead) where
  abbrev pub fault_at_number : FaultKind → ℕ → ℕ → List FaultRead
  fault_at_number kind id number =
      map
      (λ o. fault_about kind (named_place_of web.file_names o.origin) (name_at table id))
      (option_to_list (slice_get web.occurrences number))

  abbrev pub fault_of : FaultKind → ℕ → Option ℕ → List FaultRead
  fault_of kind id None = []
  fault_of kind id (Some number) = fault_at_number kind id number

  -- the node has a piece
  abbrev pub has_piece_of_node : Node → Bool
  has_piece_of_node n = shape_has_piece (shapes web table (title_at table.names n))

  -- the node has a piece, reaches no name that contains itself, and is beyond a limit
  abbrev pub is_too_large : Node → Bool
  is_too_large n =
      has_piece_of_node n
      && (not (reaches_cycle (shapes web table) table.names (title_at table.names n))
      && not (is_expandable (shapes web table) (title_at table.names n)))

  -- the numbers of a name's first occurrence, and of the first use that resolves to it
  abbrev pub first_occurrence_number : ℕ → Option ℕ
  first_occurrence_number id = Some (slice_index_or table.first_occurrences id 0)

  -- A use in a dropped piece counts: what its author has to mend is the name of the definition.
  abbrev pub first_use : ℕ → Option ℕ
  first_use id =
      position (λ o. is_use o.role && is_number id (resolve web.occurrences o)) web.occurrences

-- a fault without a place, if there is one
abbrev pub fault_if : FaultKind → Bool → List FaultRead
fault_if kind has_fault = if has_fault then fault_unplaced kind ∷ [] else []

-- The faults, for a main file of the name `out`: those of the names in their order, and then those
-- of the program.
module _ (web : WebRead) (table : TableRead) (out : List ℕ) where
  -- the occurrence at which the name has a fault of this kind, if it has one
  abbrev pub fault_occurrence : FaultKind → ℕ → Option ℕ
  fault_occurrence kind.Undefined id =
      if has_piece_of_node web table (suc id) then None else first_use web table id
  fault_occurrence kind.Unused id =
      if has_piece_of_node web table (suc id)
      && (not (is_some (first_file_occurrence table id))
      && not (is_some (first_use web table id)))
      then first_occurrence_number web table id
      else None
  fault_occurrence kind.SelfContaining id =
      if contains_itself (shapes web table) table.names (Named (name_at table id))
      then first_occurrence_number web table id
      else None
  fault_occurrence kind.TooLarge id =
      if is_too_large web table (suc id)
      then first_occurrence_number web table id
      else None
  fault_occurrence kind.FileClash id =
      if is_main_file (shapes web table) table out id
      then first_file_occurrence table id
      else None
  fault_occurrence kind.FileTwice id =
      if is_earlier_file (shapes web table) table out id
      then first_file_occurrence table id
      else None
  fault_occurrence _ id = None

  -- the fault of this kind that the name has, if it has one
  abbrev pub fault_of_name : FaultKind → ℕ → List FaultRead
  fault_of_name kind id = fault_of web table kind id (fault_occurrence kind id)

  -- the faults of this kind, in the order of the names
  abbrev pub faults_of_names : FaultKind → List FaultRead
  faults_of_names kind = flat_map (fault_of_name kind) (range_with_len 0 (length table.names))

  abbrev pub graph_faults : List FaultRead
  graph_faults =
      faults_of_names kind.Undefined
      ++ (faults_of_names kind.Unused ++ (faults_of_names kind.SelfContaining
      ++ (faults_of_names kind.TooLarge
      ++ (fault_if kind.TooLarge (is_too_large web table program)
      ++ (faults_of_names kind.FileClash ++ (faults_of_names kind.FileTwice
      ++ fault_if kind.NoProgram (not (has_piece_of_node web table program))))))))
