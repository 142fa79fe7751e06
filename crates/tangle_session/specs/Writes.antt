-- How writing an output ends, and that each of its bytes is at its line of the source.
use Rattle.std.specs.Prelude.{◌≡◌, ℕ, true, List, Option, Some, None}
use Rattle.std.specs.Prelude.{Result, Ok, Err, find}
use Rattle.std.specs.Str.{bytes_eq}
use Rattle.tangle_files.specs.Lines.{FileTable}
use Rattle.tangle_files.specs.Roles.{RolesRead}
use Rattle.tangle_files.specs.declared.marks.MarkMode.TheVariants.{Full}
use Rattle.tangle_files.specs.declared.refusal.Refusal.{Refusal}
use Rattle.tangle_files.specs.declared.refusal.Refusal.TheVariants as refusal
use Rattle.tangle_streams.specs.Streams.{Stream, IsWritten}
use Rattle.tangle_bodies.specs.Shapes.{Title}
use Rattle.tangle_bodies.specs.WebShapes.{shapes}
use Rattle.tangle_expansion.specs.Limits.{levels, flat_of}
use Rattle.tangle_expansion.specs.Location.{AreAtTheirOrigins, classes}
use Rattle.tangle_expansion.specs.Numbers.{numbers_of}
use Rattle.tangle_expansion.specs.Outputs.{OutputRead}
use Rattle.tangle_bodies.specs.Nodes.{title_at}
use Rattle.tangle_graph.specs.Outputs.{outputs}
use Rattle.tangle_session.specs.Headline.{output_at, output_bytes, source_at, table_at, web_at}

-- An output of these bytes was written. At `Ok` the writer has all of them; at `WriteFault n` it
-- has the first `n`. There is no other refusal.
abbrev pub WritesOut : Stream → Stream → List ℕ → Result ℕ Refusal → Type 0
WritesOut old new bytes (Ok n) = IsWritten old new bytes (Ok n)
WritesOut old new bytes (Err (refusal.WriteFault n)) =
    IsWritten old new bytes (Err (record { 0 = n }))
WritesOut old new bytes (Err _) = ⊥

-- The output of a name is written, if it has these bytes; if there is none, nothing is written, and
-- the call is refused.
abbrev pub WritesOutput : Option (List ℕ) → Stream → Stream → Result ℕ Refusal → Type 0
WritesOutput None old new result = (result ≡ Err refusal.NoOutput) × (new ≡ old)
WritesOutput (Some bytes) old new result = WritesOut old new bytes result

-- The output file of this name, and its bytes. Where line marks are written in full, the counted
-- origin at each byte of a word, a sign, a quoted or verbatim text or an ASCII constant that is read,
-- outside of stretches, is that of the byte's source line, whichever groups of lines a compiler
-- leaves out. Before the first mark of a file, which is in no group, the origin is unknown.
pub record IsTrueFile (files : FileTable) (roles : RolesRead) (name : List ℕ) : Type 0 where
  pub output : OutputRead
  pub named : find (λ o. bytes_eq name o.name)
      (outputs (web_at files roles) (table_at files roles) roles.out) ≡ Some output
  pub are_its : output_at files roles name ≡ Some (output_bytes files roles output)
  pub origins :
      let title : Title = title_at (table_at files roles).names output.node in
      AreAtTheirOrigins (numbers_of (web_at files roles) (table_at files roles) Full) true None
      (flat_of (shapes (web_at files roles) (table_at files roles)) title)
      (classes levels (source_at files roles) (web_at files roles) title)
