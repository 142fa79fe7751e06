-- Regions, unit by unit: the text after them, and the tokens of their units.
use Rattle.std.proofs.lemmas.Bool.Decides.{nat_tests}
use Rattle.std.proofs.Common.{◌≡◌, ℕ, ◌+◌, drop-drop, List, drop, ap, sym, ◌∙◌, arith, ◌<◌, Bool}
use Rattle.std.proofs.Common.{if◌then◌else◌, [], ◌∷◌, ◌++◌, length, Option, refl, zero, suc, true}
use Rattle.std.proofs.Common.{append_assoc, append-nil}
use Rattle.tangle_text.specs.declared.regions.Region.{Region}
use Rattle.tangle_text.specs.Text.{Cell, byte_at, front_cell}
use Rattle.tangle_lexer.specs.Comments.{two_if, ends_region, unit_line_end, line_ends}
use Rattle.tangle_text.specs.Regions.{count_before, region_end, unit_at, more_by, AreOrdinary, skips_ordinary}
use Rattle.tangle_text.proofs.RegionLemmas.{region_end-is, unit_at-front, region_end-nothing, region_end-stop}
use Rattle.tangle_text.proofs.RegionLemmas.{region_end-go}
use Rattle.tangle_text.specs.declared.regions.Unit.{Unit as Unit-of}
use Rattle.tangle_lexer.specs.declared.modes.LineState.{LineState}
use Rattle.tangle_lexer.specs.declared.tokens.Token.{Token}
use Rattle.tangle_text.specs.NameBytes.{name_bytes}
use Rattle.tangle_text.proofs.UnitLemmas.{from_units, units-give, name_bytes_of}
use Rattle.tangle_lexer.specs.LinesOfC.{after_line_end, after_line_ends}
use Rattle.tangle_lexer.specs.Lexemes.{line_end_by}
use Rattle.tangle_lexer.specs.Quoted.{cut_tokens}
use Rattle.tangle_text.proofs.OrdinaryBytes.{region_end-ordinary}
use Rattle.tangle_lexer.proofs.lemmas.CutLemmas.{cut-stop, cut-go}
use Rattle.tangle_text.specs.declared.regions.Region.TheVariants as region
use Rattle.tangle_text.specs.declared.regions.Unit.TheVariants as unit

-- regions that open with two cells

pub drop-two : (text : List Cell) → drop 1 (drop 1 text) ≡ drop 2 text
drop-two text = drop-drop 1 1 text

-- the text after a lexeme that two cells open
pub after-two : (n : ℕ) (text : List Cell) → drop (1 + n) (drop 1 text) ≡ drop n (drop 2 text)
after-two n text = grind arith

-- the text after a region that opens with two cells
pub mid-is : (r : Region) (text mid : List Cell)
    → mid ≡ region_end r (drop 1 (drop 1 text)) → mid ≡ drop (count_before r (drop 2 text)) (drop 2 text)
mid-is r text mid h = h ∙ (ap (region_end r) (drop-two text) ∙ region_end-is r (drop 2 text))

pub after-if : (n k : ℕ) (text : List Cell) → drop (1 + n + k) (drop 1 text) ≡ drop k (drop n (drop 2 text))
after-if n k text = sym (drop-drop k (1 + n) (drop 1 text)) ∙ ap (drop k) (after-two n text)

-- the text after a region that opens with two cells, and after its end, if that is there
pub ended-ahead : (r : Region) (text mid rest : List Cell)
    → mid ≡ region_end r (drop 1 (drop 1 text)) → rest ≡ drop (two_if (ends_region r mid)) mid → rest
    ≡ drop (1 + count_before r (drop 2 text)
    + two_if (ends_region r (drop (count_before r (drop 2 text)) (drop 2 text)))) (drop 1 text)
ended-ahead r text mid rest h go = grind (arith, nat_tests, mid-is, after-if)

-- the tokens of the units of a region

pub from_units-stop : {A : Type 0} (f : Unit-of → Cell → Option ℕ → List A) (r : Region) (text : List Cell)
    → unit_at r text ≡ unit.Stop → from_units f r 0 text ≡ []
from_units-stop f r [] h = refl
from_units-stop f r (c ∷ cs) h = rw h refl

-- line ends, unit by unit

abbrev pub line_end_of : Unit-of → Cell → Option ℕ → List Token
line_end_of u c next = line_end_by c.byte c.line

pub line_ends-are : (r : Region) (text : List Cell) → line_ends r text ≡ from_units line_end_of r 0 text
line_ends-are r text = units-give line_end_of unit_line_end r (λ c n. refl) (λ c d. refl) (λ c e. refl) text

pub line_ends-stop : (r : Region) (text : List Cell) → unit_at r text ≡ unit.Stop → line_ends r text ≡ []
line_ends-stop r text h = line_ends-are r text ∙ from_units-stop line_end_of r text h

pub line_ends-go : (r : Region) (last : ℕ) (text : List Cell) (u : Unit-of)
    → 0 < length text → unit_at r text ≡ u → (u ≡ unit.Stop → ⊥) → line_ends r text
    ≡ line_end_of u (front_cell last text) (byte_at 1 text) ++ line_ends r (drop (more_by u) (drop 1 text))
line_ends-go r last text u inside h go = grind arith

-- names, unit by unit

pub name_bytes-go : (last : ℕ) (text : List Cell) (u : Unit-of)
    → 0 < length text → unit_at region.Name text ≡ u → (u ≡ unit.Stop → ⊥) → name_bytes text
    ≡ name_bytes_of u (front_cell last text) (byte_at 1 text) ++ name_bytes (drop (more_by u) (drop 1 text))
name_bytes-go last text u inside h go = grind arith

pub after_line_ends-append : (b : Bool) (ts us : List Token) (l : LineState)
    → after_line_ends b (ts ++ us) l ≡ after_line_ends b us (after_line_ends b ts l)
after_line_ends-append b [] us l = refl
after_line_ends-append b (t ∷ ts) us l = after_line_ends-append b ts us (if b then l else after_line_end l)

-- ordinary bytes of a region are units of one cell without tokens

pub line_ends-ordinary : (r : Region) → skips_ordinary r ≡ true → (n : ℕ) (text : List Cell)
    → AreOrdinary n text → line_ends r (drop n text) ≡ line_ends r text
line_ends-ordinary r is zero text h = refl
line_ends-ordinary r is (suc n) [] h = refl
line_ends-ordinary r is (suc n) (c ∷ cs) h = grind (arith, nat_tests, line_ends-ordinary r is n cs h.1)

pub cut-ordinary : (ends : ℕ → List Cell → List Token) (r : Region)
    → skips_ordinary r ≡ true → (n start : ℕ) (text : List Cell) → AreOrdinary n text
    → cut_tokens ends r 0 start (drop n text) ≡ cut_tokens ends r 0 start text
cut-ordinary ends r is zero start text h = refl
cut-ordinary ends r is (suc n) start [] h = refl
cut-ordinary ends r is (suc n) start (c ∷ cs) h = grind (arith, nat_tests, cut-ordinary ends r is n start cs h.1)

-- what the functions that read regions take from here

pub ruleset opened_steps = (nat_tests, append_assoc, drop-two, after-two, mid-is, after-if, ended-ahead)

pub ruleset unit_steps = (opened_steps, unit_at-front, region_end-stop, region_end-go, region_end-ordinary, region_end-nothing)

pub ruleset comment_steps = (unit_steps, append-nil, line_ends-stop, line_ends-ordinary)

pub ruleset quoted_steps = (unit_steps, cut-stop, cut-go, cut-ordinary)
