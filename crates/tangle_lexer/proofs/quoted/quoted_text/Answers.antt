use Rattle.std.proofs.Common.{arith}
use Rattle.std.proofs.lemmas.Bool.Decides.{nat_tests}
use Rattle.std.proofs.Common.{drop}
use Rattle.tangle_text.specs.Bytes.{holds}
use Rattle.tangle_text.specs.Text.{byte_at}
use Rattle.tangle_lexer.proofs.lemmas.CutLemmas.{drop-end}
use Rattle.tangle_lexer.proofs.quoted.quoted_text.Goals as goal

pub returns : goal.returns
returns c =
    grind (arith, nat_tests, drop-end c.args.region (drop 1 c.args.reader.now) (λ t. holds c.args.close (byte_at 0 t)))
