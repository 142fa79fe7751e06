-- The bytes of a buffer, as private contracts mention them.
use Rattle.std.specs.Prelude.{ℕ, List, length, take}
use Rattle.tangle_script.specs.BufferSpace.{in_use}
use Rattle.tangle_script.specs.declared.buffer.Buffer.{Buffer}

-- the bytes in the buffer
abbrev pub bytes : Buffer → List ℕ
bytes b = take b.len (in_use b.short b.long.items)

-- the capacity of the space
abbrev pub size : Buffer → ℕ
size b = length (in_use b.short b.long.items)
