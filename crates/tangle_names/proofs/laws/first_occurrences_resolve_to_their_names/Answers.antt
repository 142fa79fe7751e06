use Rattle.tangle_names.proofs.FirstLemmas as law
use Rattle.tangle_names.proofs.laws.first_occurrences_resolve_to_their_names.Goals as goal

pub returns : goal.returns
returns c = record { first = law.first_law; file = law.file_law }
