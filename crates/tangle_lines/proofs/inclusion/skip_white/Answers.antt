use Rattle.std.proofs.Common.{not, ap, rules}
use Rattle.std.proofs.lemmas.List.{take_rest}
use Rattle.tangle_lines.specs.Bytes.{is_white}
use Rattle.tangle_lines.proofs.ByteSetLemmas.{found-at, is_in-white}
use Rattle.tangle_lines.proofs.inclusion.skip_white.Goals as goal

pub returns : goal.returns
returns c =
    let found = found-at _ (λ b. not (is_white b)) (λ b. ap not (is_in-white b)) _ _ c.find_not_byteset.ensures in
    search (rules, take_rest)
