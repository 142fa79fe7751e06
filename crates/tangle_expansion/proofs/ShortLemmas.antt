-- Few bytes are written for each symbol.
use Rattle.std.proofs.Common.{rules}
use Rattle.std.proofs.Common.{ℕ, ◌^◌, ◌<◌, ◌≤◌, Bool, List, [], ◌∷◌, ◌++◌}
use Rattle.std.proofs.Common.{length, arith, length-append, get_or, All, map}
use Rattle.std.specs.Prelude.{decimal}
use Rattle.std.proofs.lemmas.List.Elements.{All-map, All-nil}
use Rattle.std.specs.List.{AllByRecursion, IsDistinct}
use Rattle.std.specs.Str.{bytes_eq}
use Rattle.std.proofs.lemmas.Fmt.{length-decimal-le}
use Rattle.tangle_bodies.specs.Shapes.{Title, Shapes}
use Rattle.tangle_bodies.proofs.EachLemmas.{all_or}
use Rattle.tangle_bodies.specs.Flat.{Symbol, Byte, MarkOf, AllMacros}
use Rattle.tangle_expansion.specs.Limits.{heaviest}
use Rattle.tangle_expansion.specs.Numbers.{PieceNumbersRead, NumbersRead, no_numbers, no_origin}
use Rattle.tangle_expansion.specs.Numbers.{numbers_at, origin_of_mark, row_number}
use Rattle.tangle_expansion.specs.Outputs.{front_bytes}
use Rattle.tangle_expansion.specs.NumbersKept.{NumbersInvariant, numbers_read}
use Rattle.std.proofs.lemmas.List.{length-map}
use Rattle.std.specs.Global.{Global}
use Rattle.std.specs.declared.rc.Rc.{Rc}
use Rattle.tangle_bodies.specs.NodeBodies.{AreBodiesOf, node_bodies}
use Rattle.tangle_bodies.specs.declared.nodes.NodeBody.{NodeBody}
use Rattle.tangle_expansion.proofs.NumberLemmas.{number_found}
use Rattle.tangle_expansion.specs.PieceNumbers.{numbers_of_position}
use Rattle.tangle_expansion.specs.declared.numbers.Numbers.TheInside.{Inside}
use Rattle.tangle_expansion.specs.Numbers.{mark_bytes, mark_end, symbol_bytes, expansion_bytes}
use Rattle.tangle_files.specs.declared.marks.MarkMode.{MarkMode}
use Rattle.tangle_expansion.specs.SymbolLimits.{longest_symbol, SymbolsAreShort, IsLow}
use Rattle.tangle_expansion.proofs.WrittenLemmas.{written-short}

decimal_short : (n : ℕ) → n < 2 ^ 64 → length (decimal n) ≤ 20
decimal_short n h = length-decimal-le 20 n (omega arith) (omega arith) h

mark_short : (marks : MarkMode) (ending : List ℕ) (line : ℕ)
    → length ending < 2 ^ 64 → line < 2 ^ 32 → length (mark_bytes marks ending line) ≤ longest_symbol
unfolding longest_symbol
mark_short marks ending line h low = search (rules, decimal_short, length-append)

-- what holds of each item that is made, and of the default, holds of whatever is read from the list
made_or : {X Y : Type 0} (P : Y → Type 0) (f : X → Y) (d : Y) → ((x : X) → P (f x)) → P d
    → (xs : List X) (i : ℕ) → P (get_or (map f xs) i d)
made_or P f d each none xs = all_or P (map f xs) d none (All-map P f xs (λ i e low. each (get_or xs i e)))

record IsShort (piece : PieceNumbersRead) : Type 0 where
  pub section : piece.section < 2 ^ 64
  pub origins : All IsLow piece.origins

none_short : IsShort no_numbers
none_short = record { section = omega arith; origins = All-nil IsLow }

module _ (n : Inside) where
  -- the numbers of each node's pieces are short
  pieces_short : (node : Title) (piece : ℕ) → IsShort (numbers_at (numbers_read n) node piece)
  pieces_short node piece =
      made_or (λ row. IsShort (get_or row piece no_numbers)) (map (numbers_of_position n.pieces)) []
      (λ row. made_or IsShort (numbers_of_position n.pieces) no_numbers (λ k. record {
        section = all_or (λ s. s < 2 ^ 64) n.pieces.sections.items 0 (omega arith) n.pieces.sections_low k;
        origins = all_or (All IsLow) n.pieces.origins [] (All-nil IsLow) n.pieces.origins_low k;
      }) none_short row piece) none_short n.rows.value (row_number n.names node)

  symbols_short : SymbolsAreShort (numbers_read n)
  unfolding longest_symbol
  symbols_short (Byte b) = omega arith
  symbols_short (MarkOf node piece mark) =
      let origin = origin_of_mark (numbers_read n) node piece mark in
      mark_short n.marks (get_or (numbers_read n).mark_ends origin.file (mark_end [])) origin.line
      (made_or (λ (ending : List ℕ). length ending < 2 ^ 64) (λ e. e.items) (mark_end [])
      (λ e. omega arith) (omega arith) n.mark_ends.items origin.file)
      (all_or IsLow (numbers_at (numbers_read n) node piece).origins no_origin (omega arith)
      (pieces_short node piece).origins mark)
  symbols_short AllMacros = omega arith
  symbols_short x = search (rules, decimal_short, pieces_short, length-append)

pub numbers_hold : (n : Inside) (all : Shapes) → IsDistinct bytes_eq n.names
    → AreBodiesOf all n.names (node_bodies n.bodies.value.items) → NumbersInvariant n
numbers_hold n all distinct are = record {
  found = number_found n.names distinct;
  bodies = omega (arith, are.size, length-map n.bodies.value.items (λ (t : Rc NodeBody Global). t.value));
  inside = λ node body at. (are.each node body at).inside;
  short = symbols_short n;
}

all_symbols : (numbers : NumbersRead) → SymbolsAreShort numbers → (symbols : List Symbol)
    → AllByRecursion (λ symbol. length (symbol_bytes numbers symbol) ≤ longest_symbol) symbols
all_symbols numbers h [] = tt
all_symbols numbers h (symbol ∷ symbols) = (h symbol, all_symbols numbers h symbols)

-- at most 2 ^ 90 bytes are written for symbols within the limit of weight
pub light_fits : (numbers : NumbersRead) → SymbolsAreShort numbers → (symbols : List Symbol)
    → length symbols ≤ heaviest → length (expansion_bytes numbers symbols) ≤ 2 ^ 90
unfolding longest_symbol heaviest
light_fits numbers h symbols light =
    omega (arith, written-short numbers longest_symbol symbols (all_symbols numbers h symbols))

-- a file whose node has a piece is short enough
pub file_fits : (numbers : NumbersRead) → SymbolsAreShort numbers
    → (has_macros : Bool) (symbols : List Symbol) → length symbols ≤ heaviest
    → length ((front_bytes numbers has_macros ++ expansion_bytes numbers symbols) ++ 10 ∷ []) < 2 ^ 128
unfolding longest_symbol
file_fits numbers short x symbols light =
    grind (arith, short AllMacros, light_fits numbers short symbols light, length-append {A = ℕ})
