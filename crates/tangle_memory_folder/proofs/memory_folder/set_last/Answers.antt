use Rattle.std.proofs.Common.{◌≡◌, ◌+◌, ◌-◌, length, arith, ap}
use Rattle.tangle_memory_folder.proofs.MemoryFolderLemmas.{last_set}
use Rattle.tangle_memory_folder.proofs.memory_folder.set_last.Goals as goal

pub returns-then-count-gt0 : goal.returns-then-count-gt0
returns-then-count-gt0 c =
    let files = c.args.files.now.items in
    let count : length files ≡ (c.len-count.result - 1) + 1 = omega arith in
    last_set files (c.len-count.result - 1)
    (record { name = c.index_mut.result.now.name; bytes = c.args.bytes }) c.index_mut.result.now count
    (ap (λ x. x.name) c.index_mut.ensures.value)
