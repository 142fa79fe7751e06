-- The line of a fault.
use Rattle.std.specs.Prelude.{ℕ, List, [], ◌++◌, Option, None, Some, codes, decimal, if◌then◌else◌}
use Rattle.tangle_faults.specs.declared.faults.FaultKind.{FaultKind}
use Rattle.tangle_faults.specs.declared.faults.FaultKind.TheVariants as kind
use Rattle.tangle_faults.specs.declared.fault_line.Ending.{Ending}
use Rattle.tangle_faults.specs.declared.fault_line.Ending.TheVariants.{Nothing, FileName, Count}
use Rattle.tangle_faults.specs.declared.fault_line.Ending.TheVariants.{SectionName, NameOrProgram}
use Rattle.tangle_faults.specs.Faults.{PlaceRead, FaultRead, is_error_kind}

-- the message of a fault of this kind, and the kind of its ending
abbrev pub wording : FaultKind → List ℕ × Ending
wording kind.StrayMark = (codes "@y or @z out of place", Nothing)
wording kind.MissingY = (codes "change without @y", Nothing)
wording kind.MissingZ = (codes "change without @z", Nothing)
wording kind.EmptyOld = (codes "change without old lines", Nothing)
wording kind.IncludeNoName = (codes "inclusion without a file name", Nothing)
wording kind.IncludeMissing = (codes "included file not found: ", FileName)
wording kind.IncludeTooDeep = (codes "inclusion too deep", Nothing)
wording kind.ChangeMismatch = (codes "old lines that do not match: ", Count)
wording kind.SourceTooLong = (codes "too many lines", Nothing)
wording kind.ChangeUnused = (codes "change never used", Nothing)
wording kind.LimboCode = (codes "code before the first section", Nothing)
wording kind.CodeInC = (codes "definition code in C text", Nothing)
wording kind.UseInDirective = (codes "section name or @h in a preprocessor line", Nothing)
wording kind.NameInMacro = (codes "section name in a macro", Nothing)
wording kind.MisplacedH = (codes "@h in a macro", Nothing)
wording kind.MacroName = (codes "macro must start with an identifier", Nothing)
wording kind.ControlText = (codes "control text did not end", Nothing)
wording kind.RawString = (codes "raw string", Nothing)
wording kind.StringAt = (codes "single @ in quoted text", Nothing)
wording kind.StringEnd = (codes "quoted text did not end", Nothing)
wording kind.VerbatimEnd = (codes "verbatim text did not end", Nothing)
wording kind.AsciiBad = (codes "bad ASCII constant", Nothing)
wording kind.CommentEnd = (codes "comment did not end", Nothing)
wording kind.NameEnd = (codes "section name did not end", Nothing)
wording kind.NameEquals = (codes "missing section start before a definition", Nothing)
wording kind.NoFullName = (codes "no full name for ", SectionName)
wording kind.Ambiguous = (codes "several full names for ", SectionName)
wording kind.PrefixName = (codes "begins another name: ", SectionName)
wording kind.Undefined = (codes "undefined: ", SectionName)
wording kind.Unused = (codes "never used: ", SectionName)
wording kind.SelfContaining = (codes "contains itself: ", SectionName)
wording kind.TooLarge = (codes "too large: ", NameOrProgram)
wording kind.FileClash = (codes "file name is the main file's: ", SectionName)
wording kind.FileTwice = (codes "file has another name: ", SectionName)
wording kind.NoProgram = (codes "no program text", Nothing)

-- the name of a section, as a fault shows it
abbrev pub bracketed : List ℕ → List ℕ
bracketed name = codes "<" ++ name ++ codes ">"

-- the name; the unnamed program has none, and its fault has no place
-- A section may have the empty name, so an empty subject would not show the program.
abbrev pub name_or_program : Option PlaceRead → List ℕ → List ℕ
name_or_program None name = codes "the unnamed program"
name_or_program (Some place) name = bracketed name

abbrev pub ending_bytes : Ending → FaultRead → List ℕ
ending_bytes Nothing fault = []
ending_bytes FileName fault = fault.subject
ending_bytes Count fault = decimal fault.count
ending_bytes SectionName fault = bracketed fault.subject
ending_bytes NameOrProgram fault = name_or_program fault.place fault.subject

-- the place that comes before the message of a fault
abbrev pub place_bytes : PlaceRead → List ℕ
place_bytes place = place.file ++ codes ":" ++ decimal place.line ++ codes ": "

abbrev pub place_bytes_if_any : Option PlaceRead → List ℕ
place_bytes_if_any None = []
place_bytes_if_any (Some place) = place_bytes place

abbrev pub severity : FaultKind → List ℕ
severity k = if is_error_kind k then codes "error: " else codes "warning: "

-- the line of a fault, with its line feed
abbrev pub fault_line : FaultRead → List ℕ
fault_line fault =
    place_bytes_if_any fault.place ++ severity fault.kind ++ (wording fault.kind).0
    ++ ending_bytes (wording fault.kind).1 fault ++ codes "\n"
