use Rattle.std.proofs.Common.{rules}
use Rattle.std.proofs.Common.{◌∙◌}
use Rattle.tangle_scan.proofs.lemmas.MadeLemmas.{made-begin}
use Rattle.tangle_scan.proofs.parts.first_state.Goals as goal

pub returns-clause-made : goal.returns-clause-made
returns-clause-made c = λ tokens.
    let is = c.counted_at-counted.ensures.origin ∙ c.origin.ensures in
    search (rules, made-begin)
