use Rattle.std.proofs.lemmas.Bool.Decides.{nat_tests}
use Rattle.std.proofs.Common.{arith}
use Rattle.tangle_text.proofs.AheadLemmas.{at-byte}
use Rattle.tangle_text.proofs.RunLemmas.{white-run, count-run, rest_of-further}
use Rattle.tangle_text.proofs.reader.Reader.skip_white.Goals as goal

pub returns : goal.returns
returns c = grind (arith, nat_tests, at-byte, count-run, white-run, rest_of-further)
