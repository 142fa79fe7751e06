use Rattle.std.proofs.Common.{rules}
use Rattle.tangle_lines.proofs.ByteSetLemmas.{found-at, is_in-white_or_quote}
use Rattle.tangle_lines.proofs.inclusion.before_white_or_quote.Goals as goal

pub returns : goal.returns
returns c = let found = found-at _ _ is_in-white_or_quote _ _ c.find_byteset.ensures in search rules
