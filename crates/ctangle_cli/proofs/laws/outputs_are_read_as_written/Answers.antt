use Rattle.ctangle_cli.proofs.ReadLemmas.{stay-read}
use Rattle.ctangle_cli.proofs.laws.outputs_are_read_as_written.Goals as goal

pub returns : goal.returns
returns c files roles clear within = stay-read files roles (clear, within)
