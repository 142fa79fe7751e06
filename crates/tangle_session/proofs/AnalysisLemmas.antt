-- The analysis of a web is made from its files and roles.
use Rattle.std.proofs.Common.{rules}
use Rattle.std.proofs.Common.{◌≡◌, ◌++◌, List, append_assoc}
use Rattle.tangle_faults.specs.Faults.{FaultRead}
use Rattle.tangle_files.specs.Lines.{FileTable}
use Rattle.tangle_files.specs.Roles.{RolesRead}
use Rattle.tangle_files.specs.declared.marks.MarkMode.{MarkMode}
use Rattle.tangle_session.specs.States.{IsAnalysisAt}
use Rattle.tangle_session.specs.declared.analysis.Analysis.{Analysis}

pub faults_joined : (s w t g a b c : List FaultRead) → a ≡ s ++ w → b ≡ a ++ t → c ≡ b ++ g → c ≡ s ++ (w ++ (t ++ g))
faults_joined s w t g a b c first second third = search (rules, append_assoc)

-- an analysis whose line marks are written as the roles say is that of the roles
pub analysis_of : (files : FileTable) (roles : RolesRead) (marks : MarkMode) (analysis : Analysis) → marks ≡ roles.marks
    → IsAnalysisAt files (record roles { marks = marks }) analysis → IsAnalysisAt files roles analysis
analysis_of files roles marks analysis same is = search rules
