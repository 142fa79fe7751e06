-- Properties of the names of each web.
use Rattle.std.specs.Prelude.{◌≡◌, ◌≢◌, ◌<◌, ℕ, true, List, [], length, slice_get}
use Rattle.std.specs.Prelude.{slice_index_or, Option, Some, None, Contains}
use Rattle.tangle_names.specs.declared.Resolved.{Resolved}
use Rattle.tangle_names.specs.declared.Resolved.TheVariants.{Name, NoFullName, Ambiguous}
use Rattle.tangle_lexer.specs.Occurrences.{OccurrenceRead}
use Rattle.tangle_names.specs.Names.{NameText, begins_with}
use Rattle.tangle_names.specs.Resolving.{resolve}

-- the name with this number has this text
pub record IsNumberOf (names : List NameText) (id : ℕ) (text : NameText) : Type 0 where
  pub inside : id < length names
  pub at : slice_index_or names id [] ≡ text

-- this full name begins with the prefix
pub record Begins (full : List NameText) (p name : NameText) : Type 0 where
  pub is_full : Contains full name
  pub begins : begins_with p name ≡ true

-- this holds of the name, and of no other
abbrev pub IsOnly : (NameText → Type 0) → NameText → Type 0
IsOnly P name = P name × ((other : NameText) → P other → other ≡ name)

-- this holds of two names that differ
abbrev pub HasSeveral : (NameText → Type 0) → Type 0
HasSeveral P = (name other : NameText) × P name × P other × (name ≢ other)

-- a full name resolves to the number of its own text
abbrev pub ResolvesFull : List NameText → NameText → Resolved → Type 0
ResolvesFull names text (Name id) = IsNumberOf names id text
ResolvesFull names text _ = ⊥

-- an abbreviation with this prefix resolves to the number of the one full name that begins with it,
-- if exactly one does
abbrev pub ResolvesPrefix : List NameText → List NameText → NameText → Resolved → Type 0
ResolvesPrefix names full p (Name id) =
    (name : NameText) × IsNumberOf names id name × IsOnly (Begins full p) name
ResolvesPrefix names full p NoFullName = (name : NameText) → Begins full p name → ⊥
ResolvesPrefix names full p Ambiguous = HasSeveral (Begins full p)

-- this holds of the occurrence with this number, and of no earlier one
pub record IsFirst (P : OccurrenceRead → Type 0) (os : List OccurrenceRead) (number : ℕ)
    : Type 0 where
  pub occurrence : OccurrenceRead
  pub at : slice_get os number ≡ Some occurrence
  pub holds : P occurrence
  pub no_earlier : (n : ℕ) (o : OccurrenceRead) → n < number → slice_get os n ≡ Some o → P o → ⊥

-- this is the number of the first occurrence of which this holds; `None` only where there is none
abbrev pub IsFirstIfAny : (OccurrenceRead → Type 0) → List OccurrenceRead → Option ℕ → Type 0
IsFirstIfAny P os (Some number) = IsFirst P os number
IsFirstIfAny P os None = (o : OccurrenceRead) → Contains os o → P o → ⊥

-- the occurrence resolves to the name with this number
abbrev pub ResolvesTo : List OccurrenceRead → ℕ → OccurrenceRead → Type 0
ResolvesTo os id o = resolve os o ≡ Name id

-- it does, and has `@(`
abbrev pub ResolvesToFile : List OccurrenceRead → ℕ → OccurrenceRead → Type 0
ResolvesToFile os id o = (o.is_file ≡ true) × (resolve os o ≡ Name id)
