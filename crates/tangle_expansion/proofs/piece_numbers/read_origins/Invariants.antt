use Rattle.std.proofs.Common.{◌≡◌, ◌++◌, drop, get_or, All}
use Rattle.tangle_scan.specs.Web.{no_piece}
use Rattle.tangle_expansion.specs.Numbers.{numbers_of_piece}
use Rattle.tangle_expansion.specs.SymbolLimits.{IsLow}
use Rattle.tangle_expansion.proofs.piece_numbers.read_origins.Given as goal

abbrev pub invariant-loop-origin : goal.invariant-loop-origin
invariant-loop-origin l = record {
  read : l.origins.items ++ drop l.origin-index l.origin-items
      ≡ (numbers_of_piece (get_or l.web.pieces l.number no_piece)).origins;
  low : All IsLow l.origins.items;
}
