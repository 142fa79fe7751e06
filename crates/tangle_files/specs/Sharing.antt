-- Lines that share a text: each is a slice of it.
use Rattle.std.specs.Prelude.{ℕ, ◌+◌, ◌*◌, ◌^◌, List, take, drop}

-- a position in a text, from its low 32 bits and the bits above them
abbrev pub position_of : ℕ → ℕ → ℕ
position_of low high = low + high * 2 ^ 32

-- the `size` bytes of a text from a position on
abbrev pub slice_of : List ℕ → ℕ → ℕ → List ℕ
slice_of text position size = take size (drop position text)
