use Rattle.std.proofs.Common.{rules}
use Rattle.tangle_layers.proofs.source_parts.read_parts.Goals as goal

pub next_block-requires-clause-ours : goal.next_block-requires-clause-ours
next_block-requires-clause-ours c = (0, c.new-reader.ensures.text)

pub tokens_of_macro-requires-clause-alone : goal.tokens_of_macro-requires-clause-alone
tokens_of_macro-requires-clause-alone c = search rules
