-- Rows as links in one list: each link has an entry and the place of the entry before it.
use Rattle.std.specs.Prelude.{◌≤◌, ◌<◌, ◌==◌, ℕ, suc, List, [], ◌∷◌, ◌++◌, if◌then◌else◌, length}
use Rattle.std.specs.Prelude.{map, reverse, slice_index_or, All}
use Rattle.digraph.specs.declared.growing.Link.{Link}

-- the entries of the row whose last entry has this place, by the links from the last to the first
abbrev pub chain : {X : Type 0} → List (Link X) → ℕ → List X
chain [] place = []
chain (link ∷ links) place =
    if place == suc (length links) then chain links link.before ++ link.entry ∷ []
    else chain links place

-- the rows whose last entries have these places
abbrev pub rows_of_links : {X : Type 0} → List (Link X) → List ℕ → List (List X)
rows_of_links links lasts = map (chain (reverse links)) lasts

-- each entry comes after the entry before it in its row
abbrev pub GoesBack : {X : Type 0} → List (Link X) → Type 0
GoesBack {X} links =
    (k : ℕ) (link : Link X) → k < length links → (slice_index_or links k link).before ≤ k

-- the links go back, and no place is past the end
pub record AreLinked {X : Type 0} (links : List (Link X)) (lasts : List ℕ) : Type 0 where
  pub back : GoesBack links
  pub last : All (λ place. place ≤ length links) lasts
