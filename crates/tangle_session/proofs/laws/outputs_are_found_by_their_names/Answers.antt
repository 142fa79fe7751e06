use Rattle.tangle_session.proofs.NameLemmas.{forms_distinct, found_by_name, names_distinct}
use Rattle.tangle_session.proofs.laws.outputs_are_found_by_their_names.Goals as goal

pub returns : goal.returns
returns c = record { apart = forms_distinct; distinct = names_distinct; found = found_by_name }
