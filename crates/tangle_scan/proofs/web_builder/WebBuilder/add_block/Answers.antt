use Rattle.std.proofs.Common.{rules}
use Rattle.std.proofs.lemmas.Result.{on_ok_weaker}
use Rattle.tangle_scan.proofs.lemmas.GatheredLemmas.{section-stored, macro-stored}
use Rattle.tangle_scan.proofs.web_builder.WebBuilder.add_block.Goals as goal

pub returns-in-Section-clause-builder : goal.returns-in-Section-clause-builder
returns-in-Section-clause-builder c = search (rules, on_ok_weaker, section-stored)

pub returns-in-MacroStart-clause-builder : goal.returns-in-MacroStart-clause-builder
returns-in-MacroStart-clause-builder c = search (rules, on_ok_weaker, macro-stored)
