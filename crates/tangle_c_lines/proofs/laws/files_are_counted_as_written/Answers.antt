use Rattle.tangle_c_lines.proofs.CountedLemmas.{file_counted}
use Rattle.tangle_c_lines.proofs.laws.files_are_counted_as_written.Goals as goal

pub returns-clause-files : goal.returns-clause-files
returns-clause-files c = file_counted
