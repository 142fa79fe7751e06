-- Rows as links in one list.
use Rattle.std.proofs.Common.{rules}
use Rattle.std.proofs.Common.{◌≡◌, ◌≤◌, ◌<◌, ◌-◌, ◌∙◌, ℕ, suc, cond, eqb, List, [], ◌∷◌, ◌++◌, map}
use Rattle.std.proofs.Common.{length, get_or, set, reverse, refl, ap, sym, subst, arith, All}
use Rattle.std.proofs.lemmas.List.{reverse-append, length-reverse, length-map, map-set, get_or-map}
use Rattle.std.proofs.lemmas.List.{get_or-reverse}
use Rattle.std.proofs.Math.Decide.{ℕ_discrete}
use Rattle.digraph.specs.Graph.{row_at}
use Rattle.digraph.specs.Rows.{GrowsBy, IsRowsOf}
use Rattle.digraph.specs.Links.{chain, rows_of_links, GoesBack, AreLinked}
use Rattle.digraph.specs.declared.growing.Link.{Link}

module _ {X : Type 0} where
  chain_below : (link : Link X) (links : List (Link X)) (place : ℕ)
      → place ≤ length links → chain (link ∷ links) place ≡ chain links place
  chain_below link links place h = search rules

  pub chain_none : (links : List (Link X)) (place : ℕ) → place ≤ 0 → chain links place ≡ []
  chain_none [] place h = refl
  chain_none (link ∷ links) place h = chain_below link links place (omega arith) ∙ chain_none links place h

  -- an entry of the links from the last to the first, and the entries before it in its row
  step_in : (links : List (Link X)) (place : ℕ) (link : Link X) → 0 < place → place ≤ length links
      → link ≡ get_or links (length links - place) link → link.before < place
      → chain links place ≡ chain links link.before ++ link.entry ∷ []
  step_in [] place link some within is low = absurd (omega arith)
  step_in (first ∷ links) place link some within is low = elim (ℕ_discrete place (suc (length links))) [
    | yes e ↦ search (rules, chain_below)
    | no other ↦ (let next : suc (length links) - place ≡ suc (length links - place) = omega arith in
        rw (chain_below first links place (omega arith), chain_below first links link.before (omega arith))
        (step_in links place link some (omega arith) (is ∙ ap (λ k. get_or (first ∷ links) k link) next) low))
  ]

  pub chain_step : (links : List (Link X)) (place : ℕ) (link : Link X)
      → GoesBack links → 0 < place → place ≤ length links → link ≡ get_or links (place - 1) link
      → chain (reverse links) place ≡ chain (reverse links) link.before ++ link.entry ∷ []
  chain_step links place link back some within read =
      search (rules, length-reverse, step_in, get_or-reverse)

  same_rows : (link : Link X) (links : List (Link X)) (lasts : List ℕ) → All (λ place. place ≤ length links) lasts
      → map (chain (link ∷ links)) lasts ≡ map (chain links) lasts
  same_rows link links [] low = refl
  same_rows link links (place ∷ lasts) low =
      cc (
        chain_below link links place (low 0 0 (omega arith)),
        same_rows link links lasts (λ k d h. low (suc k) d (omega arith)),
      )

  pub grows_linked : (links : List (Link X)) (lasts : List ℕ) (n : ℕ) (link : Link X) (place : ℕ)
      → AreLinked links lasts → n < length lasts → link.before ≡ get_or lasts n 0 → place ≡ suc (length links)
      → GrowsBy (λ m. cond (eqb n m) (link.entry ∷ []) [])
      (rows_of_links links lasts) (rows_of_links (links ++ link ∷ []) (set lasts n place))
  grows_linked links lasts n link place is within e p =
      subst (GrowsBy (λ m. cond (eqb n m) (link.entry ∷ []) []) (rows_of_links links lasts)) (sym made)
      (search rules)
    where
      size : length (reverse links) ≡ length links
      size = length-reverse links

      low : All (λ m. m ≤ length (reverse links)) lasts
      low k d h = omega (arith, size)

      row : chain (link ∷ reverse links) place ≡ row_at (rows_of_links links lasts) n ++ link.entry ∷ []
      row = ap (chain (link ∷ reverse links)) (p ∙ ap suc (sym size))
          ∙ (search (rules, get_or-map))

      made : rows_of_links (links ++ link ∷ []) (set lasts n place)
          ≡ set (rows_of_links links lasts) n (row_at (rows_of_links links lasts) n ++ link.entry ∷ [])
      made = rw (reverse-append links (link ∷ []))
          (map-set (chain (link ∷ reverse links)) lasts n place
          ∙ (λ i. set (same_rows link (reverse links) lasts low i) n (row i)))

  pub no_rows : (lasts : List ℕ) (count : ℕ) → length lasts ≡ count
      → IsRowsOf count (λ n. []) (rows_of_links {X = X} [] lasts)
  no_rows lasts count e = record {
    size = length-map lasts (chain {X = X} []) ∙ e;
    row = λ n h. get_or-map (chain {X = X} []) lasts n 0 [] (omega arith);
  }
