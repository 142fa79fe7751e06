-- How the state of a session agrees with its files.
use Rattle.std.specs.Prelude.{◌≡◌, true}
use Rattle.tangle_files.specs.Lines.{FileTable}
use Rattle.tangle_files.specs.Roles.{RolesRead, fits}
use Rattle.tangle_names.specs.NameTable.{table_over}
use Rattle.tangle_expansion.specs.Numbers.{numbers_of}
use Rattle.tangle_graph.specs.WebStores.{IsStoreOfWeb}
use Rattle.tangle_graph.specs.Keeping.{KeepsJust}
use Rattle.tangle_session.specs.Headline.{faults_at, table_at, web_at}
use Rattle.tangle_session.specs.Sessions.{shapes_of}
use Rattle.tangle_session.specs.declared.analysis.Analysis.{Analysis}
use Rattle.tangle_session.specs.declared.tangling.SessionState.{SessionState}

-- the analysis is made from these files and roles: the occurrences of their web, its names, its
-- store and its numbers, and the faults
pub record IsAnalysisAt (files : FileTable) (roles : RolesRead)
    (analysis : Analysis) : Type 0 where
  pub occurrences : analysis.occurrences.items ≡ (web_at files roles).occurrences
  pub table : analysis.table ≡ table_at files roles
  pub store : IsStoreOfWeb (web_at files roles) (table_at files roles) roles.out analysis.store
  pub numbers : analysis.numbers
      ≡ numbers_of (web_at files roles) (table_at files roles) roles.marks
  pub faults : analysis.faults.items ≡ faults_at files roles

-- the table of the analysis is that of its occurrences
abbrev pub HasItsTable : Analysis → Type 0
HasItsTable analysis = analysis.table ≡ table_over analysis.occurrences.items

-- The state is made from the files, which have the web and the change file, and keeps the expansion
-- of each expandable node.
pub record AgreesWithFiles (files : FileTable)
    (roles : RolesRead) (state : SessionState) : Type 0 where
  pub files_fit : fits files roles ≡ true
  pub analysis : IsAnalysisAt files roles state.analysis
  pub kept : KeepsJust (shapes_of (web_at files roles)) state.analysis.store state.kept
