-- The lines that the programs write on the error stream.
use Rattle.std.specs.Prelude.{ℕ, List, [], ◌++◌, codes}
use Rattle.std.specs.List.{fold, list_any}
use Rattle.tangle_files.specs.declared.refusal.Refusal.{Refusal}
use Rattle.tangle_files.specs.declared.refusal.Refusal.TheVariants.{
  BadName,
  FileExists,
  TooManyFiles,
  LineTooLong,
  TooManyLines,
  NoMemory,
  UnknownFile,
  NoSuchLine,
  BadLine,
  NoWeb,
  NoChange,
  RoleFile,
  NoOutput,
  WriteFault,
}
use Rattle.tangle_faults.specs.Faults.{FaultRead, is_error}
use Rattle.tangle_faults.specs.FaultLine.{fault_line}
use Rattle.tangle_folders.specs.declared.folder.FolderFault.{FolderFault}
use Rattle.tangle_folders.specs.declared.folder.FolderFault.TheVariants.{NoMemory as FolderMemory}
use Rattle.tangle_script.specs.Endings.{status_by}
use Rattle.tangle_loading.specs.Loading.{LoadEnd}
use Rattle.tangle_loading.specs.Loading.LoadEnd.{CannotRead, Refused, NoMemory as LoadMemory}

abbrev pub usage_line : List ℕ
usage_line = codes "usage: ctangle [flags] web [change [out]]\n"

abbrev pub refusal_name : Refusal → List ℕ
refusal_name BadName = codes "BadName"
refusal_name FileExists = codes "FileExists"
refusal_name TooManyFiles = codes "TooManyFiles"
refusal_name LineTooLong = codes "LineTooLong"
refusal_name TooManyLines = codes "TooManyLines"
refusal_name NoMemory = codes "NoMemory"
refusal_name UnknownFile = codes "UnknownFile"
refusal_name NoSuchLine = codes "NoSuchLine"
refusal_name BadLine = codes "BadLine"
refusal_name NoWeb = codes "NoWeb"
refusal_name NoChange = codes "NoChange"
refusal_name RoleFile = codes "RoleFile"
refusal_name NoOutput = codes "NoOutput"
refusal_name (WriteFault n) = codes "WriteFault"

-- the line that reports why loading ended without files, after the program's name
abbrev pub ending_line : List ℕ → LoadEnd → List ℕ
ending_line program (CannotRead name) = program ++ codes ": cannot read " ++ name ++ codes "\n"
ending_line program (Refused name refusal) =
    program ++ codes ": " ++ name ++ codes ": " ++ refusal_name refusal ++ codes "\n"
ending_line program LoadMemory = program ++ codes ": NoMemory\n"

-- the line that reports an unwritten output
abbrev pub unwritten_line : FolderFault → List ℕ → List ℕ
unwritten_line FolderMemory name = ending_line (codes "ctangle") LoadMemory
unwritten_line _ name = codes "ctangle: cannot write " ++ name ++ codes "\n"

-- the lines of the faults
abbrev pub fault_lines : List FaultRead → List ℕ
fault_lines faults = fold (λ lines fault. lines ++ fault_line fault) [] faults

-- 1 where a fault is an error, else 0
abbrev pub faults_status : List FaultRead → ℕ
faults_status faults = status_by (list_any is_error faults)
