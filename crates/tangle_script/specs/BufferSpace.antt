-- The space for the bytes that wait until their command is complete.
use Rattle.std.specs.Prelude.{ℕ, ◌==◌, List, length, if◌then◌else◌}

-- the most bytes that one call reads
abbrev pub chunk : ℕ
chunk = 4096

-- the size of the buffer on the stack: enough for one short command and a chunk after it
abbrev pub stack_size : ℕ
stack_size = 8192

-- the space in use: on the stack, until space was allocated
abbrev pub in_use : List ℕ → List ℕ → List ℕ
in_use short long = if length long == 0 then short else long
