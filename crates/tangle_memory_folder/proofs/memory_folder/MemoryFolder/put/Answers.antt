use Rattle.std.proofs.Common.{◌∙◌}
use Rattle.tangle_memory_folder.proofs.MemoryFolderLemmas.{put_found, put_leaves}
use Rattle.tangle_memory_folder.proofs.memory_folder.MemoryFolder.put.Goals as goal

pub returns-in-Ok-clause-ok : goal.returns-in-Ok-clause-ok
returns-in-Ok-clause-ok c =
    rw (← c.in_ok-name.ensures.items, ← c.in_ok-bytes.ensures.items, c.in-Ok.ensures.entries)
    (put_found c.args.self.now.files.entries c.in_ok-name.name c.in_ok-bytes.bytes)

pub returns-in-Ok-clause-others : goal.returns-in-Ok-clause-others
returns-in-Ok-clause-others c = λ other apart.
    rw c.in-Ok.ensures.entries
    (put_leaves c.args.self.now.files.entries c.in_ok-name.name
    c.in_ok-bytes.bytes other (λ same. apart (same ∙ c.in_ok-name.ensures.items)))
