-- The tokens of a file are counted as they are written.
use Rattle.std.proofs.Common.{rules, ◌≡◌, ℕ, Bool, true, false, List, [], ◌∷◌, ◌++◌}
use Rattle.std.proofs.Common.{None, refl, sym, subst, append-nil}
use Rattle.std.specs.Prelude.{if◌then◌else◌}
use Rattle.c_tokens.specs.Bytes.{line_feed}
use Rattle.c_lines.specs.Counting.{start_of_text, LineCount, LineOfTokens, reads}
use Rattle.std.specs.List.{AllByRecursion}
use Rattle.tangle_files.specs.declared.marks.MarkMode.TheVariants.{Full}
use Rattle.tangle_lines.specs.Reading.{SourceRead}
use Rattle.tangle_scan.proofs.laws.WebLaws.{web-line-truth}
use Rattle.tangle_scan.specs.Rules.{texts_of}
use Rattle.tangle_scan.specs.Web.{WebRead, web_of}
use Rattle.tangle_names.specs.NameTable.{table_of}
use Rattle.tangle_bodies.specs.Shapes.{Title}
use Rattle.tangle_bodies.specs.Flat.{Symbol}
use Rattle.tangle_expansion.specs.Limits.{levels, flat_of, IsExpandableNode}
use Rattle.tangle_expansion.specs.Location.{ByteClass, AreAtTheirOrigins, classes}
use Rattle.tangle_expansion.specs.Numbers.{NumbersRead, expansion_bytes}
use Rattle.tangle_expansion.specs.Outputs.{front_bytes}
use Rattle.tangle_expansion.proofs.LineTruth.{node_is_located}
use Rattle.tangle_c_tokens.specs.Files.{SourceHasNoLineFeed, numbers_in, shapes_in, ReachesWholePieces}
use Rattle.tangle_c_lines.specs.CountedLines.{no_class, classes_of_bytes, classes_of_file, bytes_of_file}
use Rattle.tangle_c_lines.specs.CountedLines.{FilesAreCountedAsWritten, SourceLinesAreLow, IsSeen}
use Rattle.tangle_c_tokens.proofs.AllMacroLemmas.{macros-keep}
use Rattle.tangle_c_tokens.proofs.FileLemmas.{file_is_read}
use Rattle.c_lines.proofs.LineLemmas.{each_line}
use Rattle.tangle_c_lines.proofs.ByteLemmas.{FileOfBytes, IsOwn}
use Rattle.tangle_c_lines.proofs.LineEndLemmas.{at_front, last-read}
use Rattle.tangle_c_lines.proofs.RunLemmas.{IsReadOn, loose-read}
use Rattle.tangle_c_lines.proofs.SymbolLemmas.{AreKept, symbols-read}
use Rattle.tangle_c_lines.proofs.FitLemmas.{node-fits}
use Rattle.tangle_c_lines.proofs.LowLemmas.{mark-low}
use Rattle.tangle_c_lines.proofs.KeptLemmas.{node-kept}

module _ (source : SourceRead) (clear : SourceHasNoLineFeed source) (low : SourceLinesAreLow source.lines) where
  abbrev web : WebRead
  web = web_of source

  abbrev numbers : NumbersRead
  numbers = numbers_in source Full

  abbrev symbols_of : Title → List Symbol
  symbols_of node = flat_of (shapes_in source) node

  abbrev classes_in : Title → List ByteClass
  classes_in node = classes levels source web node

  module _ (all : List ByteClass) where
    abbrev file : FileOfBytes
    file = record { names = web.file_names; classes = all }

    -- after the macros
    abbrev Property : Bool → Title → Bool → Type 0
    Property true node now = AreAtTheirOrigins numbers now None (symbols_of node) (classes_in node)
    Property false node now = Unit {0}

    after-macros : (has_piece : Bool) (node : Title) → (has_piece ≡ true → IsExpandableNode (shapes_in source) node × ReachesWholePieces source node)
        → IsReadOn file true None
        (if has_piece then expansion_bytes numbers (symbols_of node) ++ line_feed ∷ [] else [])
        (if has_piece then classes_of_bytes numbers (symbols_of node) (classes_in node) ++ no_class ∷ [] else [])
        (Property has_piece node)
    after-macros false node ready = λ r choices kept s pending. last-read file r choices None [] s
    after-macros true node ready =
        symbols-read web (table_of web) clear.names (mark-low source low)
        (macros-keep (texts_of source.lines) web.macros) all (symbols_of node) (classes_in node) true None
        (node-fits source levels node (web-line-truth source) clear.lines)
        (subst (AreKept true) (append-nil (symbols_of node)) (node-kept source clear.lines levels node (ready refl).1 [] tt))

    property : (has_piece : Bool) (node : Title) → Property has_piece node true
    property false node = tt
    property true node = node_is_located source web levels node true None (web-line-truth source)

  pub file_counted : FilesAreCountedAsWritten source
  file_counted name has_macros has_piece node whole ready seen choices =
      let all : List ByteClass = classes_of_file source has_macros has_piece node in
      let text : List ℕ = bytes_of_file source has_macros has_piece node in
      let each = each_line start_of_text text
      (file_is_read source Full clear has_macros has_piece node whole ready).lines in
      let seen_lines = subst (AllByRecursion (IsSeen all)) each seen in
      let start : LineCount = record { row = 0; origin = record { file = name; line = 1 } } in
      subst (λ (ls : List LineOfTokens). AllByRecursion (IsOwn (file all)) (reads choices true start ls)) (sym each)
      (loose-read (file all) (front_bytes numbers has_macros) _ _ (Property all has_piece node)
      (search (rules, macros-keep)) (after-macros all has_piece node ready)
      (at_front start_of_text true start) choices refl (search (rules, seen_lines))
      (property all has_piece node))
