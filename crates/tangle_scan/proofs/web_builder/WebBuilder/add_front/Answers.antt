use Rattle.std.proofs.Common.{rules}
use Rattle.tangle_scan.proofs.lemmas.GatheredLemmas.{front-stored}
use Rattle.tangle_scan.proofs.web_builder.WebBuilder.add_front.Goals as goal

pub returns-clause-builder : goal.returns-clause-builder
returns-clause-builder c = search (rules, front-stored)
