-- The cells of a region, counted one by one.
use Rattle.std.proofs.lemmas.Bool.Decides.{nat_tests}
use Rattle.std.proofs.Common.{◌≡◌, ℕ, zero, suc, ◌+◌, List, [], ◌∷◌, ◌++◌}
use Rattle.std.proofs.Common.{flat_map, Option, None, refl, arith}
use Rattle.tangle_text.specs.declared.regions.Region.{Region}
use Rattle.tangle_text.specs.declared.regions.Region.TheVariants as region
use Rattle.tangle_text.specs.declared.regions.Unit.{Unit as Unit-of}
use Rattle.tangle_text.specs.declared.regions.Unit.TheVariants as unit
use Rattle.tangle_text.specs.NameBytes.{unit_name_bytes, unit_bytes, name_bytes}
use Rattle.tangle_text.specs.Text.{Cell, byte_at}
use Rattle.tangle_text.specs.Regions.{unit_at, more_by, unless_stop, units_from, units, count_before}

-- the number of cells up to the end of a region: 0 where it ends, else this cell and those after it
abbrev pub count_by : Unit-of → ℕ → ℕ
count_by unit.Stop n = 0
count_by _ n = 1 + n

-- The cells of a region, counted one by one. `k` cells at the front belong to an earlier unit.
abbrev pub counted : Region → ℕ → List Cell → ℕ
counted r k [] = 0
counted r (suc k) (c ∷ cs) = 1 + counted r k cs
counted r zero (c ∷ cs) = count_by (unit_at r (c ∷ cs)) (counted r (more_by (unit_at r (c ∷ cs))) cs)

-- a count is that of the cells one by one
pub count-is : (r : Region) (text : List Cell) → count_before r text ≡ counted r 0 text
count-is r [] = refl
count-is r (c ∷ []) = grind (arith, nat_tests)
count-is r (c ∷ d ∷ cs) = grind (arith, nat_tests, count-is r (d ∷ cs), count-is r cs)

-- What `f` gives for each unit of a region, in order. `k` cells at the front belong to an earlier unit.
abbrev pub from_units : {A : Type 0} → (Unit-of → Cell → Option ℕ → List A) → Region → ℕ → List Cell → List A
from_units f r k [] = []
from_units f r (suc k) (c ∷ cs) = from_units f r k cs
from_units f r zero (c ∷ cs) =
    unless_stop (unit_at r (c ∷ cs))
    (f (unit_at r (c ∷ cs)) c (byte_at 0 cs) ++ from_units f r (more_by (unit_at r (c ∷ cs))) cs)

-- What each unit gives is a flat map over the units, where it depends on the cells of the unit alone.
pub units-give : {A : Type 0} (f : Unit-of → Cell → Option ℕ → List A) (g : List Cell → List A) (r : Region)
    → ((c : Cell) (next : Option ℕ) → f unit.One c next ≡ g (c ∷ []))
    → ((c d : Cell) → f unit.Two c d.byte ≡ g (c ∷ d ∷ []))
    → ((c : Cell) → unit_at r (c ∷ []) ≡ unit.Two → f unit.Two c None ≡ g (c ∷ []))
    → (text : List Cell) → flat_map g (units r text) ≡ from_units f r 0 text
units-give f g r one two last [] = refl
units-give f g r one two last (c ∷ []) = grind (arith, nat_tests)
units-give f g r one two last (c ∷ d ∷ cs) =
    by (unit_at r (c ∷ d ∷ cs)) (units-give f g r one two last (d ∷ cs)) (units-give f g r one two last cs)
  where
    by : (u : Unit-of) → flat_map g (units r (d ∷ cs)) ≡ from_units f r 0 (d ∷ cs)
        → flat_map g (units r cs) ≡ from_units f r 0 cs
        → flat_map g (units_from u c d (units r (d ∷ cs)) (units r cs))
        ≡ unless_stop u (f u c d.byte ++ from_units f r (more_by u) (d ∷ cs))
    by u next further = grind (arith, one c d.byte, two c d)

-- the bytes of the units of a name

abbrev pub name_bytes_of : Unit-of → Cell → Option ℕ → List ℕ
name_bytes_of u c next = unit_name_bytes u c.byte next

pub name_bytes-are : (text : List Cell) → name_bytes text ≡ from_units name_bytes_of region.Name 0 text
name_bytes-are text = grind (arith, nat_tests, units-give name_bytes_of unit_bytes region.Name)
