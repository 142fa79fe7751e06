-- The output files of a web are ready to be written where what its nodes expand to is kept.
use Rattle.std.proofs.Common.{◌≡◌, ◌∙◌, ◌≤◌, ℕ, List, length, sym, subst}
use Rattle.tangle_expansion.specs.Expanded.{used_titles}
use Rattle.tangle_expansion.specs.Numbers.{NumbersRead, titles_used}
use Rattle.std.specs.Prelude.{Contains, All}
use Rattle.std.proofs.lemmas.List.Elements.{All-contains_itself, All-weaker}
use Rattle.tangle_scan.specs.Web.{WebRead}
use Rattle.tangle_names.specs.NameTable.{TableRead}
use Rattle.tangle_expansion.specs.Limits.{heaviest, flat_of, IsExpandableNode}
use Rattle.tangle_expansion.specs.Outputs.{OutputRead, IsReady}
use Rattle.tangle_bodies.specs.WebShapes.{shapes, ResolvesInside}
use Rattle.tangle_bodies.specs.Shapes.{Title, Shapes}
use Rattle.tangle_expansion.specs.declared.kept.Kept.{Kept}
use Rattle.tangle_graph.specs.Stores.{StoreRead}
use Rattle.tangle_graph.specs.WebStores.{IsStoreOfWeb}
use Rattle.tangle_graph.proofs.OutputLemmas.{IsFit, outputs_fit, ready}
use Rattle.tangle_graph.specs.Keeping.{KeepsJust}

module _ (web : WebRead) (table : TableRead) (out : List ℕ)
    (store : StoreRead) (kept : Kept) (is : IsStoreOfWeb web table out store)
    (keeps : KeepsJust (shapes web table) store kept) (resolves : ResolvesInside table)
    (law : (p : Shapes) (t : Title) → IsExpandableNode p t → length (flat_of p t) ≤ heaviest) where
  fits : (output : OutputRead) → Contains store.outputs output → IsFit (shapes web table) store.names output
  fits output c = subst (λ names. IsFit (shapes web table) names output) (sym is.names)
      (outputs_fit web table resolves out output (subst (λ os. Contains os output) is.outputs c))

  pub outputs_ready : (numbers : NumbersRead) → titles_used numbers ≡ used_titles (shapes web table)
      → numbers.names ≡ table.names → All (IsReady numbers kept) store.outputs
  outputs_ready numbers uses_are names_are =
      All-weaker (Contains store.outputs) (IsReady numbers kept)
      (λ output c. ready (shapes web table) store kept numbers is.store keeps uses_are (names_are ∙ sym is.names)
      output (fits output c) law) store.outputs
      (All-contains_itself store.outputs)
