use Rattle.std.proofs.Common.{rules}
use Rattle.std.proofs.lemmas.Bool.Decides.{Decides-eqb}
use Rattle.std.proofs.lemmas.Slice.Eq.{slice_eq-Decides}
use Rattle.tangle_bodies.proofs.body_builder.BodyBuilder.has_uses_of.Goals as goal

pub returns : goal.returns
returns c = search (rules, slice_eq-Decides, Decides-eqb)
