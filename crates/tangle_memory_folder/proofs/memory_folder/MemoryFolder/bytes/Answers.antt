use Rattle.std.proofs.Common.{refl}
use Rattle.tangle_memory_folder.proofs.MemoryFolderLemmas.{file_bytes-entries}
use Rattle.tangle_memory_folder.proofs.memory_folder.MemoryFolder.bytes.Goals as goal

pub returns-in-Some : goal.returns-in-Some
returns-in-Some c = rw (file_bytes-entries, ← c.in-Some.ensures.value, c.as_slice.ensures.value) refl

pub returns-in-None : goal.returns-in-None
returns-in-None c = rw (file_bytes-entries, ← c.in-None.ensures.value) refl
