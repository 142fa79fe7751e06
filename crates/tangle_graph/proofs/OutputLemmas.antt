-- What holds of each output file of a web.
use Rattle.std.proofs.lemmas.Bool.Decides.{nat_tests}
use Rattle.std.proofs.Common.{rules}
use Rattle.std.proofs.Common.{◌≡◌, ◌<◌, ◌≤◌, ◌||◌, ℕ, Bool, true, false, List, [], ◌∷◌, length}
use Rattle.std.proofs.Common.{◌∙◌, refl, subst, inl, inr, arith}
use Rattle.std.proofs.lemmas.Bool.{cases_Bool}
use Rattle.std.specs.Prelude.{not, if◌then◌else◌, Contains, All}
use Rattle.std.specs.List.{range_with_len}
use Rattle.std.proofs.lemmas.Bool.{and_parts}
use Rattle.std.proofs.lemmas.List.Elements.{All-contains}
use Rattle.std.proofs.lemmas.List.Elements.{Contains-append_cases}
use Rattle.tangle_scan.specs.Web.{WebRead}
use Rattle.tangle_names.specs.NameTable.{TableRead}
use Rattle.tangle_names.proofs.ContainsLemmas.{out_of_filter, out_of_map}
use Rattle.tangle_expansion.specs.Limits.{IsExpandableNode, flat_of, heaviest}
use Rattle.tangle_expansion.specs.Expanded.{symbols_if_any, used_titles}
use Rattle.tangle_expansion.specs.Numbers.{NumbersRead, titles_used}
use Rattle.tangle_expansion.specs.Outputs.{OutputRead, IsReady, node_symbols}
use Rattle.digraph.specs.Nodes.{Node}
use Rattle.tangle_expansion.specs.declared.kept.Kept.{Kept}
use Rattle.tangle_bodies.specs.WebShapes.{name_at, shapes, ResolvesInside}
use Rattle.tangle_bodies.specs.Shapes.{Title, Named, Shapes}
use Rattle.tangle_bodies.specs.Shapes as title
use Rattle.tangle_bodies.specs.Nodes.{title_at}
use Rattle.tangle_graph.specs.Keeping.{KeepsJust}
use Rattle.tangle_bodies.specs.Nodes.{IsNodeOf}
use Rattle.tangle_graph.specs.Outputs.{shape_has_piece, is_expandable, file_names, first_file_name}
use Rattle.tangle_graph.specs.Outputs.{main_output, named_file, main_file, is_written, outputs}
use Rattle.tangle_graph.specs.Stores.{StoreRead, IsStoreOf, is_expandable_at, title_in_store}
use Rattle.tangle_graph.proofs.ExpandLemmas.{expandable_at}
use Rattle.tangle_graph.proofs.ListLemmas.{all_flat}
use Rattle.tangle_graph.proofs.NodeMeasureLemmas.{expandable_is, no_pieces}

-- of each output file: its node is the program or a name, and is expandable if it has a piece
pub record IsFit (shapes : Shapes) (names : List (List ℕ)) (output : OutputRead) : Type 0 where
  pub inside : IsNodeOf names output.node
  pub there : output.has_piece ≡ true → IsExpandableNode shapes (title_at names output.node)
  pub none : output.has_piece ≡ false → shapes (title_at names output.node) ≡ []

one_where : {X : Type 0} (b : Bool) (x y : X) → Contains (if b then x ∷ [] else []) y → (b ≡ true) × (x ≡ y)
one_where true x y c = search rules
one_where false x y c = absurd (omega arith)

module _ (web : WebRead) (table : TableRead) (resolves : ResolvesInside table) where
  pub names_below : All (λ id. id < length table.names) (file_names web table)
  names_below = all_flat (λ id. id < length table.names) (first_file_name table) (search rules)
      (range_with_len 0 (length web.occurrences))

  module _ (out : List ℕ) where
    main_fits : (not (shape_has_piece (shapes web table title.Program))
        || is_expandable (shapes web table) title.Program) ≡ true
        → IsFit (shapes web table) table.names (main_output web table out)
    main_fits h = record {
      inside = omega arith;
      there = λ t. (expandable_is (shapes web table) title.Program).0 (grind (arith, nat_tests, t, h));
      none = no_pieces (shapes web table title.Program);
    }

    named_fits : (id : ℕ) → id < length table.names → is_written web table out id ≡ true
        → IsFit (shapes web table) table.names (named_file table id)
    named_fits id h is = record {
      inside = h;
      there = λ t. (expandable_is (shapes web table) (Named (name_at table id))).0 (and_parts _ _ is).0;
      none = λ f. absurd (let no : true ≡ false = f in cc);
    }

    pub outputs_fit : (output : OutputRead)
        → Contains (outputs web table out) output → IsFit (shapes web table) table.names output
    outputs_fit output c = elim (Contains-append_cases (main_file web table out) _ output c) [
      | inl main ↦ (let found = one_where _ _ output main in
          subst (IsFit (shapes web table) table.names) found.1 (main_fits found.0))
      | inr named ↦ (let found = out_of_map (named_file table) _ output named in
          let passes = out_of_filter (is_written web table out) _ found.0 found.1 in
          let low = All-contains (λ id. id < length table.names) _ found.0 names_below passes.0 in
          subst (IsFit (shapes web table) table.names) found.2 (named_fits found.0 low passes.1))
    ]

-- what is kept gives the symbols of a node, and an output file is then ready to be written
module _ (shapes : Shapes) (store : StoreRead) (kept : Kept) (numbers : NumbersRead) (is : IsStoreOf shapes store)
    (keeps : KeepsJust shapes store kept) (uses_are : titles_used numbers ≡ used_titles shapes)
    (names_are : numbers.names ≡ store.names) where
  pub kept_symbols : (node : Node) → is_expandable_at store node ≡ true
      → node_symbols numbers kept node ≡ flat_of shapes (title_in_store store node)
  kept_symbols node on =
      let e = (keeps node).expandable on in
      (λ i. symbols_if_any (uses_are i) (title_at (names_are i) node) (e.1 i)) ∙ e.2

  pub ready : (output : OutputRead) → IsFit shapes store.names output
      → ((p : Shapes) (t : Title) → IsExpandableNode p t → length (flat_of p t) ≤ heaviest) → IsReady numbers kept output
  ready output fit law =
      let node = output.node in
      let expandable = expandable_at shapes store is node fit.inside in
      record {
        inside = rw names_are fit.inside;
        there = λ t. (let e = (keeps node).expandable (expandable.1 (fit.there t)) in rw e.1 refl);
        light = elim (cases_Bool (is_expandable_at store node)) [
          | inl on ↦ rw (kept_symbols node on) (law shapes _ (expandable.0 on))
          | inr off ↦ rw ((keeps node).other off) (omega arith)
        ];
      }
