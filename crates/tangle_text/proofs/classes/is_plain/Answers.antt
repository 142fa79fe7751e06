use Rattle.std.proofs.Common.{ap, arith}
use Rattle.tangle_text.specs.declared.classes.ByteClass.{ByteClass}
use Rattle.tangle_text.proofs.ClassLemmas.{class-at}
use Rattle.tangle_text.proofs.classes.is_plain.Goals as goal

pub returns : goal.returns
returns c = ap (λ (class : ByteClass). class.is_plain) (class-at c.args.byte _ (omega arith))
