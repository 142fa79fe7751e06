-- Bytes up to an `@` are skipped in prose, and belong to the name that is being read.
use Rattle.std.proofs.Common.{rules}
use Rattle.std.proofs.lemmas.Bool.Decides.{nat_tests}
use Rattle.std.proofs.Common.{◌≡◌, ◌<◌, ◌≤◌, ℕ, ◌+◌, ◌-◌, zero, suc, Bool, false, List, [], ◌∷◌, ◌++◌, Option, Some}
use Rattle.std.proofs.Common.{take, drop, length, get_or, refl, sym, ◌∙◌, arith, nat_eq, length-drop}
use Rattle.std.proofs.lemmas.Bool.{ne_eqb}
use Rattle.std.proofs.lemmas.List.{get_or-drop}
use Rattle.tangle_lines.specs.Reading.{SourceLine}
use Rattle.tangle_text.specs.declared.regions.Region.{Region}
use Rattle.tangle_text.specs.declared.regions.Region.TheVariants as region
use Rattle.tangle_text.specs.declared.regions.Unit.TheVariants as unit
use Rattle.tangle_text.specs.Text.{Cell, line_text}
use Rattle.tangle_text.specs.Regions.{unit_of, region_end}
use Rattle.tangle_text.specs.NameBytes.{BeginsName}
use Rattle.tangle_text.specs.Ahead.{rest_of}
use Rattle.tangle_text.proofs.RegionLemmas.{region_end-one}
use Rattle.tangle_text.proofs.UnitLemmas.{from_units, name_bytes_of, name_bytes-are}
use Rattle.tangle_text.proofs.RunLemmas.{rest_of-further}

-- a byte that is no `@` is a unit of its own
abbrev pub PassesAll : Region → Type 0
PassesAll r = (b : ℕ) (next : Option ℕ) → nat_eq b 64 ≡ false → unit_of r (Some b) next ≡ unit.One

in-name : PassesAll region.Name
in-name b next h = rw h refl

pub in-prose : PassesAll region.Prose
in-prose b next h = rw h refl

chunk-line : (r : Region) → PassesAll r → (line column : ℕ) (bs : List ℕ) (rest : List Cell) (n : ℕ)
    → n ≤ length bs → ((k : ℕ) → k < n → get_or bs k 0 ≡ 64 → ⊥)
    → (region_end r (drop n (line_text line column bs ++ rest)) ≡ region_end r (line_text line column bs ++ rest))
    × (from_units name_bytes_of r 0 (line_text line column bs ++ rest)
    ≡ take n bs ++ from_units name_bytes_of r 0 (drop n (line_text line column bs ++ rest)))
chunk-line r one line column bs rest zero h other = (refl, refl)
chunk-line r one line column [] rest (suc n) h other = absurd (omega arith)
chunk-line r one line column (b ∷ bs) rest (suc n) h other =
    let more = chunk-line r one line (column + 1) bs rest n (omega arith) (λ k lt. other (suc k) (omega arith)) in
    grind (arith, nat_tests, one b, region_end-one, ne_eqb b 64 (other 0 (omega arith)), more)

-- the text ahead after a range of a line that has no `@`
module _ (lines : List SourceLine) (bytes : List ℕ) (line column end : ℕ) (low : column ≤ end)
    (high : end ≤ length bytes) (other : (k : ℕ) → column + k < end → get_or bytes (column + k) 0 ≡ 64 → ⊥) where
  other-after : (k : ℕ) → k < end - column → get_or (drop column bytes) k 0 ≡ 64 → ⊥
  other-after k lt same = other k (omega arith) (sym (get_or-drop column bytes k 0) ∙ same)

  pub rest_of-after : (done : Bool)
      → rest_of lines bytes line end done ≡ drop (end - column) (rest_of lines bytes line column done)
  rest_of-after done =
      let next : end ≡ column + (end - column) = omega arith in
      search (rules, rest_of-further)

  pub region_end-after : (r : Region) → PassesAll r → (done : Bool)
      → region_end r (rest_of lines bytes line end done) ≡ region_end r (rest_of lines bytes line column done)
  region_end-after r one done = grind (arith, nat_tests, rest_of-after, chunk-line, length-drop, other-after)

  pub shorter-after : (done : Bool)
      → length (rest_of lines bytes line end done) ≤ length (rest_of lines bytes line column done)
  shorter-after done = grind (arith, rest_of-after done, length-drop)

  pub bytes_begin : (read : List ℕ) → read ≡ take (end - column) (drop column bytes)
      → BeginsName read (rest_of lines bytes line column false) (rest_of lines bytes line end false)
  bytes_begin read is = record {
    units = grind (arith, nat_tests, name_bytes-are, rest_of-after false, chunk-line region.Name in-name, length-drop, other-after);
    end = sym (region_end-after region.Name in-name false);
    shorter = shorter-after false;
  }
