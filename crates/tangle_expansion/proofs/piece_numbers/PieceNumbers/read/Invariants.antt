use Rattle.std.proofs.Common.{◌≡◌, ◌<◌, ◌^◌, ◌++◌, map, drop, All}
use Rattle.tangle_scan.specs.Web.{PieceRead}
use Rattle.tangle_expansion.specs.Numbers.{numbers_of_piece}
use Rattle.tangle_expansion.specs.SymbolLimits.{IsLow}
use Rattle.tangle_expansion.proofs.piece_numbers.PieceNumbers.read.Given as goal

abbrev pub invariant-loop-i : goal.invariant-loop-i
invariant-loop-i l = record {
  sections : l.sections.items ++ map (λ (p : PieceRead). p.section) (drop l.i l.web.pieces)
      ≡ map (λ (p : PieceRead). p.section) l.web.pieces;
  origins : l.origins ++ map (λ (p : PieceRead). (numbers_of_piece p).origins) (drop l.i l.web.pieces)
      ≡ map (λ (p : PieceRead). (numbers_of_piece p).origins) l.web.pieces;
  sections_low : All (λ s. s < 2 ^ 64) l.sections.items;
  origins_low : All (All IsLow) l.origins;
}
