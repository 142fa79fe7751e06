-- What a C compiler reads of each output file, on one page.
--
-- The tokens that the compiler reads of a file are those of the groups of items that the author
-- wrote in the macros and pieces that the file reaches, in the order of expansion, and of line marks
-- where the rules for items leave them (`tokens`). Where line marks are written in full, the
-- compiler counts each token that begins in a byte of an item at the file and line of the source on
-- which the author wrote it, whichever groups of lines it leaves out (`lines`).
--
-- Both programs promise it of what they write: `RunEnds` of the output files that a run of
-- `ctangle` creates, and `RetangleEnds` of those that a run of `retangle` shows, before and after
-- any edits. `outputs_are_read_as_written` says it of any other session.
use Rattle.std.specs.Prelude.{◌≡◌, true, List, Contains}
use Rattle.tangle_files.specs.Lines.{FileTable}
use Rattle.tangle_files.specs.Roles.{RolesRead}
use Rattle.tangle_files.specs.declared.marks.MarkMode.TheVariants.{Full}
use Rattle.tangle_bodies.specs.Nodes.{title_at}
use Rattle.tangle_bodies.specs.Shapes.{Title}
use Rattle.tangle_expansion.specs.Location.{ByteClass}
use Rattle.tangle_expansion.specs.Outputs.{OutputRead}
use Rattle.tangle_c_lines.specs.CountedLines.{classes_of_file, DirectivesAreSeen}
use Rattle.tangle_c_lines.specs.CountedLines.{IsCountedAsWritten}
use Rattle.tangle_c_tokens.specs.Files.{MacrosAreReadAlone, ReachesWholePieces, texts_of_file}
use Rattle.tangle_c_tokens.specs.Reading.{IsReadAsTexts}
use Rattle.tangle_graph.specs.Outputs.{outputs}
use Rattle.tangle_session.specs.Headline.{Call, History}
use Rattle.tangle_session.specs.Headline.{output_bytes, source_at, table_at, web_at}
use Rattle.tangle_session.specs.Sessions.{SessionRead}

module _ (files : FileTable) (roles : RolesRead) where
  abbrev pub title_of_output : OutputRead → Title
  title_of_output output = title_at (table_at files roles).names output.node

  -- The author's text decides this: the groups of items of all macros are read alone, if the file
  -- begins with them, and those of the pieces that its node reaches are whole.
  pub record IsWholeFile (output : OutputRead) : Type 0 where
    pub macros : output.has_macros ≡ true → MacrosAreReadAlone (source_at files roles)
    pub pieces : output.has_piece ≡ true
        → ReachesWholePieces (source_at files roles) (title_of_output output)

  -- the class of each byte of an output file: whether it is of an item, and of which line
  abbrev pub classes_of : OutputRead → List ByteClass
  classes_of output =
      classes_of_file (source_at files roles) output.has_macros output.has_piece (title_of_output output)

  -- What a C compiler reads of an output file: the tokens of the author's groups, if these are
  -- whole, each at its line of the source, if also line marks are written in full, and each line of
  -- C that begins, turns or ends a group is a directive for the rules, too.
  pub record IsReadAsWritten (output : OutputRead) : Type 0 where
    pub tokens : IsWholeFile output
        → IsReadAsTexts
        (texts_of_file (source_at files roles) roles.marks output.has_macros output.has_piece
        (title_of_output output))
        (output_bytes files roles output)
    pub lines : roles.marks ≡ Full → IsWholeFile output
        → DirectivesAreSeen (classes_of output) (output_bytes files roles output)
        → IsCountedAsWritten (web_at files roles).file_names (classes_of output) output.name
        (output_bytes files roles output)

  -- each output file of plain tangling is read as written
  abbrev pub OutputsAreReadAsWritten : Type 0
  OutputsAreReadAsWritten =
      (output : OutputRead)
      → Contains (outputs (web_at files roles) (table_at files roles) roles.out) output
      → IsReadAsWritten output

-- each output file is read as written in each session at the end of a history: in the first one,
-- and after any calls
abbrev pub OutputsStayReadAsWritten : FileTable → RolesRead → Type 0
OutputsStayReadAsWritten files roles =
    (calls : List Call) (session : SessionRead) → History files roles calls session
    → OutputsAreReadAsWritten session.files session.roles
