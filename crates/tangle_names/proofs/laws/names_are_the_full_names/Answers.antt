use Rattle.tangle_names.proofs.LawLemmas as law
use Rattle.tangle_names.proofs.laws.names_are_the_full_names.Goals as goal

pub returns : goal.returns
returns c = record { same = law.same; once = law.once; occur = law.occur }
