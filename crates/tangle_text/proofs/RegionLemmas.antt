-- Regions, unit by unit.
use Rattle.std.proofs.lemmas.Bool.Decides.{nat_tests}
use Rattle.std.proofs.Common.{◌≡◌, ℕ, ◌+◌, suc, List, [], ◌∷◌, drop, refl, ap, sym, arith}
use Rattle.tangle_text.specs.declared.regions.Region.{Region}
use Rattle.tangle_text.specs.declared.regions.Unit.{Unit as Unit-of}
use Rattle.tangle_text.specs.declared.regions.Unit.TheVariants as unit
use Rattle.tangle_text.specs.Text.{Cell}
use Rattle.tangle_text.specs.declared.reader.Front.{Front}
use Rattle.tangle_text.specs.Ahead.{IsFront}
use Rattle.tangle_text.specs.Regions.{unit_of, unit_at, count_before, more_by, region_end}
use Rattle.tangle_text.proofs.UnitLemmas.{counted, count-is}

drop-more : (n : ℕ) (c : Cell) (cs : List Cell) → drop (1 + n) (c ∷ cs) ≡ drop n cs
drop-more n c cs = let e : 1 + n ≡ suc n = omega arith in rw e refl

pub region_end-nothing : (r : Region) → region_end r [] ≡ []
unfolding region_end
region_end-nothing r = refl

-- the text after a region, by its cells counted one by one
region_end-counted : (r : Region) (text : List Cell) → region_end r text ≡ drop (counted r 0 text) text
unfolding region_end
region_end-counted r text = ap (λ n. drop n text) (count-is r text)

pub region_end-stop : (r : Region) (text : List Cell) → unit_at r text ≡ unit.Stop → region_end r text ≡ text
region_end-stop r [] h = region_end-nothing r
region_end-stop r (c ∷ cs) h = rw (region_end-counted r (c ∷ cs), h) refl

pub region_end-one : (r : Region) (text : List Cell)
    → unit_at r text ≡ unit.One → region_end r text ≡ region_end r (drop 1 text)
region_end-one r text h = grind (arith, nat_tests, region_end-counted, drop-more)

-- a unit that isn't the end of a region is skipped
pub region_end-go : (r : Region) (text : List Cell) (u : Unit-of) → unit_at r text ≡ u → (u ≡ unit.Stop → ⊥) →
    region_end r text ≡ region_end r (drop (more_by u) (drop 1 text))
region_end-go r text u h go = grind (arith, nat_tests, region_end-counted, drop-more)

-- the unit at the front of a text, by the first two bytes
pub unit_at-front : (r : Region) (text : List Cell) (front : Front) (u : Unit-of)
    → IsFront text front → u ≡ unit_of r front.byte front.next → unit_at r text ≡ u
unit_at-front r text front u here is = rw (here.byte, here.next) (sym is)

pub region_end-is : (r : Region) (text : List Cell) → region_end r text ≡ drop (count_before r text) text
unfolding region_end
region_end-is r text = refl

-- what the functions that skip regions take from here
pub ruleset region_steps = (nat_tests, unit_at-front, region_end-stop, region_end-one, region_end-go, region_end-nothing)
