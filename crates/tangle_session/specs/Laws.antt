-- The fault of a name that contains itself, which a law of the headline promises.
use Rattle.std.specs.Prelude.{◌≡◌, ℕ, List, Some, Contains}
use Rattle.tangle_faults.specs.Faults.{FaultRead, fault_about}
use Rattle.tangle_faults.specs.declared.faults.FaultKind.TheVariants.{SelfContaining}
use Rattle.tangle_lexer.specs.Occurrences.{OccurrenceRead}
use Rattle.tangle_scan.specs.Web.{WebRead}
use Rattle.tangle_names.specs.Faults.{named_place_of}
use Rattle.tangle_names.specs.Resolving.{first_occurrence}

-- among the faults is one at the first occurrence of the name, which says that the name contains
-- itself
pub record IsReportedSelfContaining (web : WebRead)
    (name : List ℕ) (faults : List FaultRead) : Type 0 where
  pub occurrence : OccurrenceRead
  pub is_first : first_occurrence web.occurrences name ≡ Some occurrence
  pub reported : Contains faults
      (fault_about SelfContaining (named_place_of web.file_names occurrence.origin) name)
