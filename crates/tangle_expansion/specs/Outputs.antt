-- The bytes of an output file.
use Rattle.std.specs.Prelude.{◌≡◌, ◌≤◌, length, true, IsSome, ℕ, Bool, List, [], ◌∷◌}
use Rattle.std.specs.Prelude.{◌++◌, if◌then◌else◌}
use Rattle.tangle_bodies.specs.Nodes.{IsNodeOf, title_at}
use Rattle.tangle_files.specs.Bytes.{line_feed}
use Rattle.tangle_bodies.specs.Flat.{Symbol}
use Rattle.tangle_expansion.specs.Limits.{heaviest}
use Rattle.tangle_expansion.specs.Expanded.{symbols_if_any}
use Rattle.tangle_expansion.specs.Numbers.{NumbersRead, expansion_bytes, titles_used}
use Rattle.tangle_expansion.specs.Kept.{kept_at}
use Rattle.digraph.specs.Nodes.{Node}
use Rattle.tangle_expansion.specs.declared.kept.Kept.{Kept}

abbrev pub front_bytes : NumbersRead → Bool → List ℕ
front_bytes numbers has_macros = if has_macros then numbers.macros else []

-- the bytes of a file: the macros, if they begin it, and the expansion of its node and a line feed,
-- if the node has a piece
abbrev pub output_file_bytes : NumbersRead → Bool → Bool → List Symbol → List ℕ
output_file_bytes numbers has_macros has_piece symbols =
    front_bytes numbers has_macros
    ++ (if has_piece then expansion_bytes numbers symbols ++ line_feed ∷ [] else [])

-- an output file: its name, the node that is written, whether all macros begin the file, and
-- whether the node has a piece
pub record OutputRead : Type 0 where
  pub name : List ℕ
  pub node : Node
  pub has_macros : Bool
  pub has_piece : Bool

module _ (numbers : NumbersRead) (kept : Kept) where
  -- the symbols of what is kept for the node; none where no expansion is kept
  abbrev pub node_symbols : Node → List Symbol
  node_symbols node =
      symbols_if_any (titles_used numbers) (title_at numbers.names node) (kept_at kept node)

  -- the output's node is one of the web; if it has a piece, its expansion is kept, and within the
  -- limit of weight
  pub record IsReady (output : OutputRead) : Type 0 where
    pub inside : IsNodeOf numbers.names output.node
    pub there : output.has_piece ≡ true → IsSome (kept_at kept output.node)
    pub light : length (node_symbols output.node) ≤ heaviest

  abbrev pub kept_output_bytes : OutputRead → List ℕ
  kept_output_bytes output =
      output_file_bytes numbers output.has_macros output.has_piece (node_symbols output.node)
