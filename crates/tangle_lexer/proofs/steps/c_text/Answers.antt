use Rattle.std.proofs.Common.{rules}
use Rattle.std.proofs.Common.{arith}
use Rattle.std.proofs.lemmas.Bool.Decides.{nat_tests}
use Rattle.std.proofs.Common.{Result, IfOk}
use Rattle.tangle_lexer.proofs.steps.c_text.Goals as goal

if_ok : {T E : Type 0} {P Q : T → Type 0} (r : Result T E) → ((x : T) → P x → Q x) → IfOk r P → IfOk r Q
if_ok r f p = search rules

pub returns-in-LineEnd : goal.returns-in-LineEnd
returns-in-LineEnd c = grind (arith, nat_tests, if_ok)

pub returns-in-Other : goal.returns-in-Other
returns-in-Other c = grind (arith, nat_tests, if_ok)
