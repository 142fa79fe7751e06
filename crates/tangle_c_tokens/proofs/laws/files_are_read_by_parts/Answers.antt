use Rattle.tangle_c_tokens.proofs.FileLemmas.{node_is_read, file_is_read}
use Rattle.tangle_c_tokens.proofs.laws.files_are_read_by_parts.Goals as goal

pub returns-clause-names : goal.returns-clause-names
returns-clause-names c = node_is_read

pub returns-clause-files : goal.returns-clause-files
returns-clause-files c = file_is_read
