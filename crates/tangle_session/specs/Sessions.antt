-- What is shown of the state of a session, and which nodes a start or an edit expands.
use Rattle.std.specs.Prelude.{◌≢◌, ◌↔◌, List, None, Some, Option, AllPairs}
use Rattle.std.specs.Prelude.{Contains, if◌then◌else◌}
use Rattle.tangle_files.specs.Lines.{FileTable}
use Rattle.tangle_files.specs.Adding.{has_file}
use Rattle.tangle_files.specs.Roles.{RolesRead, has_file_if_any}
use Rattle.tangle_files.specs.declared.refusal.Refusal.{Refusal}
use Rattle.tangle_files.specs.declared.refusal.Refusal.TheVariants.{NoWeb, NoChange}
use Rattle.tangle_scan.specs.Web.{WebRead}
use Rattle.tangle_names.specs.NameTable.{table_of}
use Rattle.tangle_expansion.specs.Affected.{IsAffected}
use Rattle.tangle_expansion.specs.Limits.{levels, heaviest, IsExpandableNode}
use Rattle.digraph.specs.Nodes.{Node}
use Rattle.tangle_bodies.specs.Nodes.{IsNodeOf}
use Rattle.tangle_bodies.specs.WebShapes.{shapes}
use Rattle.tangle_bodies.specs.Shapes.{Shapes}
use Rattle.tangle_bodies.specs.Nodes.{title_at}

-- the files, the roles, and the nodes that were expanded in the start or in the last accepted edit
pub record SessionRead : Type 0 where
  pub files : FileTable
  pub roles : RolesRead
  pub work : List Node

-- the first refusal that applies to a start, other than out of memory
abbrev pub start_refusal : FileTable → RolesRead → Option Refusal
start_refusal files roles =
    if has_file files roles.web
    then (if has_file_if_any files roles.change then None else Some NoChange)
    else Some NoWeb

-- the shape of each node of a web
abbrev pub shapes_of : WebRead → Shapes
shapes_of web = shapes web (table_of web)

-- the list has each expandable node of the web once, and no other
pub record ListsExpandableOfWeb (web : WebRead) (nodes : List Node) : Type 0 where
  pub once : AllPairs (λ a b. a ≢ b) nodes
  pub just : (node : Node) → Contains nodes node
      ↔ (IsNodeOf (table_of web).names node
      × IsExpandableNode (shapes_of web) (title_at (table_of web).names node))

-- the list has each affected node of the new web once, and no other
pub record ListsAffectedOfWebs (old new : WebRead) (nodes : List Node) : Type 0 where
  pub once : AllPairs (λ a b. a ≢ b) nodes
  pub just : (node : Node) → Contains nodes node
      ↔ (IsNodeOf (table_of new).names node
      × IsAffected levels heaviest (shapes_of old)
      (shapes_of new) (title_at (table_of new).names node))
