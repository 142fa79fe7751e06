-- The greatest number of bytes that are written for one symbol.
use Rattle.std.specs.Prelude.{◌<◌, ◌≤◌, ◌^◌, ℕ, length}
use Rattle.tangle_lines.specs.declared.origin.Origin.{Origin}
use Rattle.tangle_bodies.specs.Flat.{Symbol}
use Rattle.tangle_expansion.specs.Numbers.{NumbersRead, symbol_bytes}

-- no more bytes than this are written for one symbol: what ends a mark, and the macros, have fewer
-- than 2 ^ 64
unfoldable pub longest_symbol : ℕ
longest_symbol = 2 ^ 66

abbrev pub SymbolsAreShort : NumbersRead → Type 0
SymbolsAreShort numbers = (symbol : Symbol) → length (symbol_bytes numbers symbol) ≤ longest_symbol

abbrev pub IsLow : Origin → Type 0
IsLow origin = origin.line < 2 ^ 32
