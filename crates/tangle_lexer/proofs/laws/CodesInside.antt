-- Which control codes are in a comment, in a control text and in a section name.
use Rattle.std.proofs.lemmas.Bool.Decides.{nat_tests}
use Rattle.std.proofs.Common.{◌≡◌, ℕ, ◌+◌, Bool, true, false, List, [], ◌∷◌, ◌++◌, take, drop}
use Rattle.std.proofs.Common.{Option, refl, arith}
use Rattle.std.proofs.Math.Seq.{take-add, take-nil}
use Rattle.std.specs.List.{AllByRecursion}
use Rattle.tangle_lines.specs.Bytes.{at_sign}
use Rattle.tangle_text.specs.declared.regions.Region.{Region}
use Rattle.tangle_text.specs.declared.regions.Unit.TheVariants as unit
use Rattle.tangle_text.specs.Bytes.{holds}
use Rattle.tangle_text.specs.Text.{Cell, byte_at}
use Rattle.tangle_text.specs.Regions.{unit_at, unit_of, count_before}
use Rattle.tangle_lexer.specs.Comments.{two_if}
use Rattle.tangle_lexer.specs.Segments.{control_codes}
use Rattle.tangle_lexer.proofs.laws.RegionUnits.{units-by}

abbrev AllCodes : (List Cell → Type 0) → List Cell → Type 0
AllCodes P cells = AllByRecursion P (control_codes cells)

-- an @ begins a control code, with the cell after it
code-passes : (P : List Cell → Type 0) (c d : Cell) (cs : List Cell)
    → holds at_sign c.byte ≡ true → P (c ∷ d ∷ cs) → AllCodes P cs → AllCodes P (c ∷ d ∷ cs)
code-passes P c d cs sign here rest = rw sign (here, rest)

-- the two cells that open a region, its own cells, and `last` more
pub taken : (n last : ℕ) (text : List Cell)
    → take (1 + (1 + n + last)) text ≡ take 2 text ++ (take n (drop 2 text) ++ take last (drop n (drop 2 text)))
taken n last text = grind (arith, nat_tests, take-add)

-- the cells after the two that open it
opened : (n last : ℕ) (text : List Cell)
    → drop 2 (take (1 + (1 + n + last)) text) ≡ take n (drop 2 text) ++ take last (drop n (drop 2 text))
opened n last text = grind (arith, nat_tests, take-add)

-- `P` is true of each control code between the two cells that open a region and its end, and in the two cells of the end
-- if they are there, if the region goes on over each control code of which `P` is true, as over two cells, and over each
-- other cell.
pub codes-region : (r : Region) (P : List Cell → Type 0) (ends : List Cell → Bool)
    → ((b next : Option ℕ) → unit_of r b next ≡ unit.One → holds at_sign b ≡ false)
    → ((cells : List Cell) → unit_at r cells ≡ unit.Two → (holds at_sign (byte_at 0 cells) ≡ true) × P cells)
    → ((b : Bool) (cells : List Cell) → ends cells ≡ b → AllCodes P (take (two_if b) cells))
    → (text : List Cell) → let inside : ℕ = count_before r (drop 2 text) in
    AllCodes P (drop 2 (take (1 + (1 + inside + two_if (ends (drop inside (drop 2 text))))) text))
codes-region r P ends one code stop text =
    let end : List Cell → List Cell = λ cells. take (two_if (ends cells)) cells in
    rw (opened (count_before r (drop 2 text)) (two_if (ends (drop (count_before r (drop 2 text)) (drop 2 text)))) text)
    (units-by r (λ n text. AllCodes P (take n text ++ end (drop n text)))
    (λ text e. stop (ends text) text refl) (stop (ends []) [] refl)
    (λ n c cs e rest. grind (arith, one c.byte (byte_at 0 cs) e))
    (λ n c d cs e rest.
    let others : List Cell = take n cs ++ end (drop n cs) in
    let h = code (c ∷ d ∷ others) e in code-passes P c d others h.0 h.1 rest)
    (λ c e. let h = code (c ∷ []) e in rw (take-nil (two_if (ends [])), h.0) (h.1, tt)) (drop 2 text))
