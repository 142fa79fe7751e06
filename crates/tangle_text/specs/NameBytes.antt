-- The bytes of a name, as they are read from the text.
use Rattle.std.specs.Prelude.{◌≡◌, ◌≤◌, ℕ, List, [], ◌∷◌, ◌++◌, length, flat_map, if◌then◌else◌}
use Rattle.std.specs.Prelude.{Option, None, unwrap_or}
use Rattle.tangle_text.specs.declared.regions.Region.TheVariants as region
use Rattle.tangle_text.specs.declared.regions.Unit.{Unit as Unit-of}
use Rattle.tangle_text.specs.declared.regions.Unit.TheVariants as unit
use Rattle.tangle_lines.specs.Bytes.{at_sign}
use Rattle.tangle_text.specs.Bytes.{holds}
use Rattle.tangle_text.specs.Text.{Cell}
use Rattle.tangle_text.specs.Regions.{units, region_end}

-- a line end in a name is a space
abbrev pub name_byte : Option ℕ → ℕ
name_byte b = unwrap_or b 32

-- `@@` is one `@`, and other control codes keep their two bytes
abbrev pub unit_name_bytes : Unit-of → Option ℕ → Option ℕ → List ℕ
unit_name_bytes unit.Two b next =
    if holds at_sign next then at_sign ∷ [] else at_sign ∷ name_byte next ∷ []
unit_name_bytes _ b next = name_byte b ∷ []

-- the bytes of a unit of a name
abbrev pub unit_bytes : List Cell → List ℕ
unit_bytes [] = []
unit_bytes (c ∷ []) = unit_name_bytes unit.One c.byte None
unit_bytes (c ∷ d ∷ cs) = unit_name_bytes unit.Two c.byte d.byte

-- the bytes of the name that is read from here on
abbrev pub name_bytes : List Cell → List ℕ
name_bytes text = flat_map unit_bytes (units region.Name text)

-- Reading a name from the text gives these bytes, followed by those that reading from the rest
-- gives.
pub record BeginsName (bytes : List ℕ) (text rest : List Cell) : Type 0 where
  pub units : name_bytes text ≡ bytes ++ name_bytes rest
  pub end : region_end region.Name text ≡ region_end region.Name rest
  pub shorter : length rest ≤ length text
