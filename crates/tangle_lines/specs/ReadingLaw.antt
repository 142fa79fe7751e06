-- The bound on the number of steps does not change what reading gives.
use Rattle.std.specs.Prelude.{◌≡◌, ℕ}
use Rattle.tangle_files.specs.Lines.{FileTable}
use Rattle.tangle_lines.specs.Reading.{State, step_of, after, reads_from}

-- reading makes its first step, and then reads on in the state after it
abbrev pub ReadsByStep : FileTable → ℕ → State → Type 0
ReadsByStep files change_file s =
    reads_from files change_file s
    ≡ after files change_file (step_of files change_file s.waiting s.changes s.taken)
    (λ t. reads_from files change_file t)
