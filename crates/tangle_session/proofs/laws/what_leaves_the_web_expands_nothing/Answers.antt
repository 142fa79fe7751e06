use Rattle.std.proofs.Common.{refl, rules}
use Rattle.tangle_session.proofs.MoveLemmas.{nothing_affected}
use Rattle.tangle_session.proofs.TangleLemmas.{same_web}
use Rattle.tangle_session.proofs.laws.what_leaves_the_web_expands_nothing.Goals as goal

pub returns : goal.returns
returns c = record {
  nothing = λ web nodes. nothing_affected web web nodes (λ node. refl);
  marks = same_web;
  refusals = λ files roles marks edit. search rules;
}
