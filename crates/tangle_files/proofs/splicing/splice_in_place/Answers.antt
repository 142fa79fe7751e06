use Rattle.std.proofs.Common.{rules, ◌≡◌, ◌+◌, ◌<◌, ℕ, List, [], ◌∷◌, length, set, add-one, append_assoc}
use Rattle.std.proofs.lemmas.List.{set_split}
use Rattle.tangle_files.specs.Edited.{with_replaced}
use Rattle.tangle_files.proofs.splicing.splice_in_place.Goals as goal

with_replaced-set : (lines : List (List ℕ)) (start : ℕ) (line : List ℕ)
    → start < length lines → set lines start line ≡ with_replaced lines start (line ∷ []) (start + 1)
with_replaced-set lines start line inside = rw (append_assoc, add-one) (set_split lines start line inside)

pub returns-else-start-end-clause-ok : goal.returns-else-start-end-clause-ok
returns-else-start-end-clause-ok c = search (rules, with_replaced-set)
