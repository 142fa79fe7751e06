use Rattle.std.proofs.Common.{refl, rules}
use Rattle.bstr.specs.Find.{is_byte}
use Rattle.tangle_lines.proofs.ByteSetLemmas.{found-at}
use Rattle.tangle_lines.proofs.inclusion.before_quote.Goals as goal

pub returns : goal.returns
returns c = let found = found-at _ (is_byte 34) (λ b. refl) _ _ c.find_byte.ensures in search rules
