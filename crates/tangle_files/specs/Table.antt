-- What a contract sees of the table of files: names
-- with lines, in the order in which they were added.
use Rattle.std.specs.Prelude.{ℕ, List, map}
use Rattle.std.specs.declared.hash.FoldHasher.{FoldHasher}
use Rattle.std.specs.declared.hash.BuildHasherDefault.{BuildHasherDefault}
use Rattle.std.specs.declared.vec.Vec.{Vec}
use Rattle.std.specs.Global.{Global}
use Rattle.std.specs.declared.rc.Rc.{Rc}
use Rattle.indexmap.specs.IndexMap.{IndexMap}
use Rattle.tangle_files.specs.Lines.{FileTable}

-- the lines of a file, which tables may share
abbrev pub SharedLines : Type 0
SharedLines = Rc (Vec (List ℕ) Global) Global

-- the table in memory
abbrev pub Table : Type 0
Table = IndexMap (Vec ℕ Global) SharedLines (BuildHasherDefault FoldHasher)

-- a file: its name and its lines
abbrev pub file_of : (Vec ℕ Global × SharedLines) → (List ℕ × List (List ℕ))
file_of e = (e.0.items, e.1.value.items)

abbrev pub files_of : Table → FileTable
files_of t = map file_of t.entries
