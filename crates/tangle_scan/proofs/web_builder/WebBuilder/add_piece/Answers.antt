use Rattle.std.proofs.Common.{rules}
use Rattle.tangle_scan.proofs.lemmas.GatheredLemmas.{piece-stored}
use Rattle.tangle_scan.proofs.web_builder.WebBuilder.add_piece.Goals as goal

pub returns-clause-piece : goal.returns-clause-piece
returns-clause-piece c = search (rules, piece-stored)
