use Rattle.std.proofs.Common.{arith}
use Rattle.std.proofs.lemmas.Bool.Decides.{nat_tests}
use Rattle.tangle_faults.specs.declared.faults.FaultKind.TheVariants as fault
use Rattle.tangle_text.specs.declared.regions.Region.TheVariants as region
use Rattle.tangle_lexer.specs.White.{after_a_name}
use Rattle.tangle_lexer.proofs.lemmas.RegionSteps.{drop-two}
use Rattle.tangle_lexer.proofs.lemmas.WhiteLemmas.{region-white, region-ahead}
use Rattle.tangle_lexer.proofs.white.passes_white.Goals as goal

pub returns-in-BlockComment : goal.returns-in-BlockComment
returns-in-BlockComment c =
    grind (arith, nat_tests, drop-two, region-white region.BlockComment fault.CommentEnd after_a_name, region-ahead)

pub returns-in-ControlText : goal.returns-in-ControlText
returns-in-ControlText c =
    grind (arith, nat_tests, drop-two, region-white region.ControlText fault.ControlText after_a_name, region-ahead)
