use Rattle.std.proofs.Common.{rules}
use Rattle.tangle_expansion.proofs.NumberLemmas.{node_numbers_of}
use Rattle.tangle_expansion.proofs.PieceLemmas.{pieces_written}
use Rattle.tangle_expansion.proofs.laws.nodes_are_written_by_pieces.Goals as goal

pub returns : goal.returns
returns c = search (rules, pieces_written, node_numbers_of)
