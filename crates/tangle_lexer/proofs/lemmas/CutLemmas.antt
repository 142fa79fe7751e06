-- Texts that are cut, unit by unit.
use Rattle.std.proofs.lemmas.Bool.Decides.{nat_tests}
use Rattle.std.proofs.Common.{◌≡◌, ◌<◌, ◌+◌, ℕ, Bool, List, [], ◌∷◌, ◌++◌, length, drop}
use Rattle.std.proofs.Common.{drop-drop, refl, arith}
use Rattle.tangle_text.specs.declared.regions.Region.{Region}
use Rattle.tangle_text.specs.declared.regions.Unit.{Unit as Unit-of}
use Rattle.tangle_text.specs.declared.regions.Unit.TheVariants as unit
use Rattle.tangle_lexer.specs.declared.tokens.Token.{Token}
use Rattle.tangle_text.specs.Text.{Cell, byte_at, front_cell}
use Rattle.tangle_text.specs.Regions.{unit_at, more_by, region_end, count_before}
use Rattle.tangle_lexer.specs.Quoted.{cut_tokens, unit_tokens, next_start, one_if}
use Rattle.tangle_text.proofs.RegionLemmas.{region_end-is}

-- a unit that does not end the region adds its tokens
pub cut-go : (ends : ℕ → List Cell → List Token) (r : Region) (start last : ℕ) (text : List Cell) (u : Unit-of) →
    0 < length text → unit_at r text ≡ u → (u ≡ unit.Stop → ⊥) → cut_tokens ends r 0 start text
    ≡ unit_tokens r u start (front_cell last text) (byte_at 1 text)
    ++ cut_tokens ends r 0 (next_start u start (front_cell last text) (byte_at 1 text)) (drop (more_by u) (drop 1 text))
cut-go ends r start last x u inside h go = grind arith

pub cut-stop : (ends : ℕ → List Cell → List Token) (r : Region) (start : ℕ) (text : List Cell)
    → unit_at r text ≡ unit.Stop → cut_tokens ends r 0 start text ≡ ends start text
cut-stop ends r start [] h = refl
cut-stop ends r start (c ∷ cs) h = rw h refl

-- the text after a region and the byte that may end it
pub drop-end : (r : Region) (text : List Cell) (b : List Cell → Bool)
    → drop (one_if (b (region_end r text))) (region_end r text)
    ≡ drop (count_before r text + one_if (b (drop (count_before r text) text))) text
drop-end r text b = grind (arith, nat_tests, region_end-is, drop-drop)
