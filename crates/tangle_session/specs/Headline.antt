-- The headline on one page: a session that was edited shows what plain tangling gives.
--
-- A project is started. Then edits of its web, include and change files, and of its setting for
-- line marks, are passed to it, one by one or several as one list. Whatever was accepted and
-- refused on the way, it shows the output files and the faults that plain tangling gives for the
-- files and the setting with the accepted edits made; a refused edit changes nothing. No output
-- file reaches a name that contains itself, and each such name has its fault.
--
-- Below are plain tangling (1), a history of edits (2), and what is shown at its end (3). The calls
-- that promise it, in the words of this page:
-- - `Session::start` starts a session (`IsStarted`), and `apply` and `apply_all` make edits
--   (`IsAnswered`). So whatever calls are made, they and their answers are a `History`.
--   `start_and_edit` makes one in one call, which ends in `HasMade`.
-- - `Session::faults` gives the faults that plain tangling gives for the session's files and roles
--   (`faults_at`). `output_names`, `output_size` and `write_output` have the names, the sizes and the
--   bytes of its output files (`output_files`). Each byte is at its line, where line marks are
--   written in full (`IsTrueFile`). `last_work` counts the nodes that were expanded last.
-- - `run_ctangle` of `ctangle_cli` writes these output files and these faults.
-- - `run_retangle` of `ctangle_cli` answers a script: edits by `IsAnswered`, `show` by `output_at`
--   and `faults` by `faults_at`. Its answers are a `History`, by
--   `the_answers_of_a_script_are_a_history`.
--
-- (3) holds of each history by the law `histories_end_in_plain_tangling`. Text that only moves
-- affects no node: `moved_text_expands_nothing`, over `Moves.antt`.
use Rattle.std.specs.Prelude.{◌≡◌, ◌⊎◌, ◌++◌, ◌∷◌, [], ℕ, List, map, Contains}
use Rattle.std.specs.Prelude.{Option, None, Some, Result, Ok, Err, unwrap_or}
use Rattle.std.specs.List.{zip}
use Rattle.std.specs.Map.{lookup}
use Rattle.std.specs.Str.{bytes_eq}
use Rattle.tangle_files.specs.Edited.{edited_all, joined, roles_after}
use Rattle.tangle_files.specs.Lines.{FileTable}
use Rattle.tangle_files.specs.Roles.{RolesRead}
use Rattle.tangle_files.specs.declared.edits.Edit.{Edit}
use Rattle.tangle_files.specs.declared.refusal.Refusal.{Refusal}
use Rattle.tangle_files.specs.declared.refusal.Refusal.TheVariants.{NoMemory}
use Rattle.tangle_faults.specs.Faults.{FaultRead}
use Rattle.tangle_lines.specs.Reading.{SourceRead, source_of}
use Rattle.tangle_scan.specs.Web.{WebRead, web_of}
use Rattle.tangle_names.specs.Faults.{name_faults}
use Rattle.tangle_names.specs.NameTable.{TableRead, table_of}
use Rattle.tangle_expansion.specs.Limits.{flat_of}
use Rattle.tangle_expansion.specs.Numbers.{numbers_of}
use Rattle.tangle_expansion.specs.Outputs.{OutputRead, output_file_bytes}
use Rattle.tangle_bodies.specs.WebShapes.{shapes}
use Rattle.tangle_bodies.specs.Shapes.{Title, Named, Uses}
use Rattle.digraph.specs.Nodes.{Node}
use Rattle.digraph.specs.Reach.{Reaches, ContainsItself}
use Rattle.tangle_graph.specs.Faults.{graph_faults}
use Rattle.tangle_bodies.specs.Nodes.{title_at}
use Rattle.tangle_graph.specs.Outputs.{outputs}
use Rattle.tangle_session.specs.Edits.{list_memory, list_refusal, session_refusal}
use Rattle.tangle_session.specs.Laws.{IsReportedSelfContaining}
use Rattle.tangle_session.specs.Sessions.{ListsAffectedOfWebs, ListsExpandableOfWeb}
use Rattle.tangle_session.specs.Sessions.{SessionRead, start_refusal}
use Rattle.tangle_session.specs.declared.refusing.ListRefusal.{ListRefusal}

-- 1. Plain tangling of files. The roles are the names of the web, of the change file, if there is
-- one, and of the main output file, and the setting for line marks. Each step is a function of the
-- results of earlier steps, and of the roles; of nothing else.
module _ (files : FileTable) (roles : RolesRead) where
  -- files to source: the lines of the web, with files included and the change file's changes made
  unfoldable pub source_at : SourceRead
  source_at = source_of files roles

  -- source to web: its sections, with the pieces of C and the macros in them, and all occurrences
  -- of names
  unfoldable pub web_at : WebRead
  web_at = web_of source_at

  -- web to names: the full names, and which of them each occurrence means
  abbrev pub table_at : TableRead
  table_at = table_of web_at

  -- the bytes of an output file: all macros, if they begin it, and then the expansion of its node,
  -- with section numbers and line marks
  abbrev pub output_bytes : OutputRead → List ℕ
  output_bytes output =
      output_file_bytes (numbers_of web_at table_at roles.marks) output.has_macros output.has_piece
      (flat_of (shapes web_at table_at) (title_at table_at.names output.node))

  -- names to output files: the main file, and then the files of `@(`, each with its name and its
  -- bytes
  abbrev pub output_files : List (List ℕ × List ℕ)
  output_files =
      map (λ output. (output.name, output_bytes output)) (outputs web_at table_at roles.out)

  -- the bytes of the output file of this name, if there is one
  abbrev pub output_at : List ℕ → Option (List ℕ)
  output_at name = lookup (bytes_eq name) output_files

  -- the faults: those of reading, of scanning, of names, and of the graph of names
  unfoldable pub faults_at : List FaultRead
  faults_at =
      source_at.faults
      ++ (web_at.faults ++ (name_faults web_at ++ graph_faults web_at table_at roles.out))

-- 2. A history: edits from a start on, each with its answer.

-- The session was started with these files and roles. This expanded each expandable node.
pub record IsStarted (files : FileTable) (roles : RolesRead)
    (session : SessionRead) : Type 0 where
  pub unrefused : start_refusal files roles ≡ None
  pub files_are : session.files ≡ files
  pub roles_are : session.roles ≡ roles
  pub work : ListsExpandableOfWeb (web_at files roles) session.work

-- A list of edits was made, each in the files that the earlier ones left, from one state of a
-- session to the other. Exactly the nodes that the whole list affects were expanded.
pub record AreMade (before : SessionRead) (edits : List Edit) (after : SessionRead) : Type 0 where
  pub files : after.files ≡ edited_all before.files edits
  pub roles : after.roles ≡ roles_after before.roles edits
  pub work : ListsAffectedOfWebs (web_at before.files before.roles)
      (web_at after.files after.roles) after.work

-- one edit, or a list of edits of which all are made or none, and the answer: they are accepted
-- (`Ok`), or refused (`Err`) for a reason, in a list with the number of the first refused edit
pub data Call : Type 0 where
  Apply : (edit : Edit) (answer : Result (Unit {0}) Refusal) → Call
  ApplyAll : (edits : List Edit) (answer : Result (Unit {0}) ListRefusal) → Call

-- The call is answered so in the state `before`, and `after` is the state then. It is accepted only
-- where no refusal applies. A single edit is refused for the first refusal that applies or, where
-- none does, because memory ran out; for a list, memory may run out before the first refused edit
-- is found. A refused call changes nothing.
abbrev pub IsAnswered : SessionRead → Call → SessionRead → Type 0
IsAnswered before (Apply edit (Ok done)) after =
    (session_refusal before.files before.roles edit ≡ None) × AreMade before (edit ∷ []) after
IsAnswered before (Apply edit (Err refusal)) after =
    (refusal ≡ unwrap_or (session_refusal before.files before.roles edit) NoMemory)
    × (after ≡ before)
IsAnswered before (ApplyAll edits (Ok done)) after =
    (list_refusal before.files before.roles edits ≡ None) × AreMade before edits after
IsAnswered before (ApplyAll edits (Err refused)) after =
    ((list_refusal before.files before.roles edits ≡ Some refused) ⊎ (refused ≡ list_memory))
    × (after ≡ before)

-- The session was started; then the calls were made and answered, in this order.
pub data History (files : FileTable) (roles : RolesRead) : List Call → SessionRead → Type 0 where
  Started : {session : SessionRead} → IsStarted files roles session
      → History files roles [] session
  Answered : {calls : List Call} {after : SessionRead} (before : SessionRead) (call : Call)
      → History files roles calls before → IsAnswered before call after
      → History files roles (calls ++ call ∷ []) after

-- 3. What is shown at the end of a history: plain tangling of the session's files and roles, which
-- are those of the start with the accepted edits made. Nothing else of the history counts.

-- the edits of each call that was accepted, in order
abbrev pub accepted : List Call → List (List Edit)
accepted [] = []
accepted (Apply edit (Ok done) ∷ calls) = (edit ∷ []) ∷ accepted calls
accepted (ApplyAll edits (Ok done) ∷ calls) = edits ∷ accepted calls
accepted (Apply edit (Err refusal) ∷ calls) = accepted calls
accepted (ApplyAll edits (Err refused) ∷ calls) = accepted calls

-- the calls that pass these lists of edits, each with its answer
abbrev pub list_calls : List (List Edit) → List (Result (Unit {0}) ListRefusal) → List Call
list_calls lists answers = map (λ call. ApplyAll call.0 call.1) (zip lists answers)

-- the files and the roles with these edits made, one after another
abbrev pub files_after : FileTable → List (List Edit) → FileTable
files_after files lists = edited_all files (joined lists)

abbrev pub roles_with : RolesRead → List (List Edit) → RolesRead
roles_with roles lists = roles_after roles (joined lists)

-- the web of the files with these edits made
abbrev pub web_after : FileTable → RolesRead → List (List Edit) → WebRead
web_after files roles lists = web_at (files_after files lists) (roles_with roles lists)

-- the nodes that the last accepted call affected; before any accepted call, the expandable nodes
pub data ListsLastExpanded (files : FileTable) (roles : RolesRead) (nodes : List Node) :
    List (List Edit) → Type 0 where
  ByStart : ListsExpandableOfWeb (web_at files roles) nodes → ListsLastExpanded files roles nodes []
  ByLast : (earlier : List (List Edit)) (last : List Edit)
      → ListsAffectedOfWebs (web_after files roles earlier)
      (web_after files roles (earlier ++ last ∷ [])) nodes
      → ListsLastExpanded files roles nodes (earlier ++ last ∷ [])

-- The session was started with these files and roles, and has made these lists of edits. Its work
-- is that of the last of them.
pub record HasMade (files : FileTable) (roles : RolesRead) (lists : List (List Edit))
    (session : SessionRead) : Type 0 where
  pub files_are : session.files ≡ files_after files lists
  pub roles_are : session.roles ≡ roles_with roles lists
  pub work : ListsLastExpanded files roles session.work lists

-- no output file reaches a name that contains itself; the main file reaches what the unnamed
-- program reaches
abbrev pub NoOutputReachesACycle : FileTable → RolesRead → Type 0
NoOutputReachesACycle files roles =
    (output : OutputRead) (other : Title)
    → Contains (outputs (web_at files roles) (table_at files roles) roles.out) output
    → Reaches (Uses (shapes (web_at files roles) (table_at files roles)))
    (title_at (table_at files roles).names output.node) other
    → ¬ (ContainsItself (Uses (shapes (web_at files roles) (table_at files roles))) other)

-- each name that contains itself has its fault, at its first occurrence
abbrev pub EachCycleIsReported : FileTable → RolesRead → Type 0
EachCycleIsReported files roles =
    (name : List ℕ)
    → ContainsItself (Uses (shapes (web_at files roles) (table_at files roles))) (Named name)
    → IsReportedSelfContaining (web_at files roles) name (faults_at files roles)
