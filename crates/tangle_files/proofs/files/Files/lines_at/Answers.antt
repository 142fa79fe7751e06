use Rattle.tangle_files.proofs.TableLemmas.{entry-limit}
use Rattle.tangle_files.proofs.files.Files.lines_at.Goals as goal

pub returns-in-Some-clause-limit : goal.returns-in-Some-clause-limit
returns-in-Some-clause-limit c =
    rw (c.as_slice.ensures.value, c.deref.ensures)
    (entry-limit c.self.inside.table _ _ c.self.invariant c.in-Some.ensures.entry)
