use Rattle.std.proofs.Common.{rules}
use Rattle.tangle_text.proofs.reader.Reader.advance.Goals as goal

pub invariant_of-self-then-next-count : goal.invariant_of-self-then-next-count
invariant_of-self-then-next-count c = search rules
