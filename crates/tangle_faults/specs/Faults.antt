-- Places and faults.
use Rattle.std.specs.Prelude.{ℕ, Bool, true, false, List, [], Option, None, Some}
use Rattle.tangle_faults.specs.declared.faults.FaultKind.{FaultKind}
use Rattle.tangle_faults.specs.declared.faults.FaultKind.TheVariants.{PrefixName, Unused, NoProgram}

-- a line of a file, counted from 1
pub record PlaceRead : Type 0 where
  pub file : List ℕ
  pub line : ℕ

-- a fault, as it is in the list of faults
pub record FaultRead : Type 0 where
  pub kind : FaultKind
  pub place : Option PlaceRead
  pub subject : List ℕ
  pub count : ℕ

abbrev pub fault_at : FaultKind → PlaceRead → FaultRead
fault_at kind place = record { kind = kind; place = Some place; subject = []; count = 0 }

abbrev pub fault_about : FaultKind → PlaceRead → List ℕ → FaultRead
fault_about kind place subject =
    record { kind = kind; place = Some place; subject = subject; count = 0 }

abbrev pub fault_counting : FaultKind → PlaceRead → ℕ → FaultRead
fault_counting kind place count =
    record { kind = kind; place = Some place; subject = []; count = count }

abbrev pub fault_unplaced : FaultKind → FaultRead
fault_unplaced kind = record { kind = kind; place = None; subject = []; count = 0 }

-- all kinds are errors but three, which are warnings
abbrev pub is_error_kind : FaultKind → Bool
is_error_kind PrefixName = false
is_error_kind Unused = false
is_error_kind NoProgram = false
is_error_kind _ = true

abbrev pub is_error : FaultRead → Bool
is_error fault = is_error_kind fault.kind
