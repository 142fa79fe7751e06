-- The names of a web: which of them are full, and which full name an abbreviation means.
use Rattle.std.specs.Prelude.{ℕ, ◌-◌, Bool, false, not, List, [], ◌∷◌, length, map, filter, take}
use Rattle.std.specs.Prelude.{nat_eq, if◌then◌else◌}
use Rattle.std.specs.List.{starts_with, list_all}
use Rattle.std.specs.Str.{bytes_eq}
use Rattle.tangle_lexer.specs.Occurrences.{OccurrenceRead}

-- the text of a section name
abbrev pub NameText : Type 0
NameText = List ℕ

-- the full names of a web, each as often as it occurs
abbrev pub full_names : List OccurrenceRead → List NameText
full_names os = map (λ o. o.text) (filter (λ o. not o.is_abbreviation) os)

-- the prefix of an abbreviation: its text before the three dots
abbrev pub prefix : NameText → NameText
prefix abbreviation = take (length abbreviation - 3) abbreviation

-- the name begins with the prefix
abbrev pub begins_with : NameText → NameText → Bool
begins_with p name = starts_with nat_eq name p

-- what an occurrence means: no full name, one, or several
pub data Meaning : Type 0 where
  Nothing : Meaning
  One : NameText → Meaning
  Several : Meaning

-- the one text that the list has, however often
abbrev pub only : List NameText → Meaning
only [] = Nothing
only (t ∷ ts) = if list_all (bytes_eq t) ts then One t else Several

-- the one full name that begins with the prefix
abbrev pub only_with : List NameText → NameText → Meaning
only_with full p = only (filter (begins_with p) full)

-- a full name means itself, and an abbreviation means the one full name that begins with its prefix
abbrev pub meaning : List NameText → OccurrenceRead → Meaning
meaning full o = if o.is_abbreviation then only_with full (prefix o.text) else One o.text

-- whether the meaning is this name
abbrev pub means : NameText → Meaning → Bool
means name (One t) = bytes_eq name t
means name _ = false
