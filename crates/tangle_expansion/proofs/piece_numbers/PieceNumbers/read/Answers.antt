use Rattle.std.proofs.Common.{append-nil, rules}
use Rattle.std.proofs.lemmas.List.{drop_all, length-map}
use Rattle.tangle_expansion.proofs.piece_numbers.PieceNumbers.read.Goals as goal

pub returns : goal.returns
returns c = search (rules, drop_all, append-nil, length-map)
