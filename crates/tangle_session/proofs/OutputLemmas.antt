-- The bytes of each output file of a web, and finding one by its name.
use Rattle.std.proofs.Common.{◌≡◌, ◌∙◌, ◌<◌, ℕ, Bool, true, List, [], ◌∷◌, length, map, get_or}
use Rattle.std.proofs.Common.{refl, sym, subst, arith}
use Rattle.std.specs.Prelude.{Some, Contains, find}
use Rattle.std.specs.List.{IsDistinct, position_or_len}
use Rattle.std.specs.Map.{lookup}
use Rattle.std.specs.Option.{option_map}
use Rattle.std.specs.Str.{bytes_eq}
use Rattle.std.proofs.lemmas.Cmp.{nat_list_eq_equiv}
use Rattle.std.proofs.lemmas.Iterator.Adapters.{option_map_id}
use Rattle.std.proofs.lemmas.Map.Views.{lookup-from_Contains}
use Rattle.std.proofs.lemmas.Slice.Eq.{bytes_eq-Decides}
use Rattle.std.proofs.lemmas.List.Folds.{find_at}
use Rattle.std.proofs.lemmas.Option.{get_or_from_slice_get, slice_get_within}
use Rattle.std.proofs.lemmas.Grind.{common_steps}
use Rattle.std.proofs.lemmas.Simd.{map-map}
use Rattle.tangle_files.specs.Lines.{FileTable}
use Rattle.tangle_files.specs.Roles.{RolesRead}
use Rattle.tangle_scan.specs.Web.{WebRead}
use Rattle.tangle_names.specs.NameTable.{table_of}
use Rattle.tangle_names.proofs.ContainsLemmas.{into_map}
use Rattle.tangle_expansion.specs.Numbers.{numbers_of}
use Rattle.tangle_expansion.specs.Outputs.{OutputRead, kept_output_bytes}
use Rattle.tangle_expansion.specs.declared.kept.Kept.{Kept}
use Rattle.tangle_graph.specs.Stores.{StoreRead, IsStoreOf}
use Rattle.std.proofs.Common.{inl, inr}
use Rattle.std.proofs.lemmas.Bool.{cases_Bool}
use Rattle.tangle_bodies.proofs.InsideLemmas.{table_inside}
use Rattle.tangle_expansion.proofs.NumberLemmas.{titles_used_of}
use Rattle.tangle_graph.proofs.ExpandLemmas.{expandable_at}
use Rattle.tangle_graph.proofs.OutputLemmas.{IsFit, kept_symbols}
use Rattle.tangle_graph.specs.Keeping.{KeepsJust}
use Rattle.tangle_session.specs.Headline.{output_bytes, table_at, web_at}
use Rattle.tangle_session.specs.Sessions.{shapes_of}

-- the bytes of an output file are those of its node's expansion
module _ (files : FileTable) (roles : RolesRead) (store : StoreRead) (kept : Kept)
    (is : IsStoreOf (shapes_of (web_at files roles)) store) (names_are : store.names ≡ (table_at files roles).names)
    (keeps : KeepsJust (shapes_of (web_at files roles)) store kept)
    (output : OutputRead) (fit : IsFit (shapes_of (web_at files roles)) store.names output) where
  abbrev web : WebRead
  web = web_at files roles

  pub same_bytes : kept_output_bytes (numbers_of web (table_of web) roles.marks) kept output
      ≡ output_bytes files roles output
  same_bytes = elim (cases_Bool output.has_piece) [
    | inl has ↦ (let on = (expandable_at (shapes_of web) store is output.node fit.inside).1 (fit.there has) in
        let given = kept_symbols (shapes_of web) store kept (numbers_of web (table_of web) roles.marks) is keeps
        (titles_used_of web (table_of web) roles.marks (table_inside web)) (sym names_are) output.node on in
        rw (given, names_are) refl)
    | inr none ↦ rw none refl
  ]

-- looking up a name among the output files gives the bytes of the output with that name
pub look_up : {Y : Type 0} (bytes_of : OutputRead → Y) (name : List ℕ) (os : List OutputRead)
    → lookup (bytes_eq name) (map (λ o. (o.name, bytes_of o)) os)
    ≡ option_map bytes_of (find (λ o. bytes_eq name o.name) os)
look_up bytes_of name [] = refl
look_up bytes_of name (o ∷ os) = grind (arith, common_steps, look_up bytes_of name os)

-- an item that is found in a list is an item of the list
pub found_in : {X : Type 0} (p : X → Bool) (xs : List X) (x : X) → find p xs ≡ Some x → Contains xs x
found_in p xs x e =
    let at = sym (find_at p xs) ∙ e in
    (position_or_len p xs, slice_get_within xs _ x at, get_or_from_slice_get xs _ x x at)

-- the names of the outputs are the names of the output files
pub names_written : {Y : Type 0} (bytes_of : OutputRead → Y) (os : List OutputRead)
    → map (λ o. o.name) os ≡ map (λ (f : List ℕ × Y). f.0) (map (λ o. (o.name, bytes_of o)) os)
names_written bytes_of os = sym (map-map (λ f. f.0) (λ o. (o.name, bytes_of o)) os)

-- where no two outputs have the same name, the one at an index is found by its name
pub find_here : (name : List ℕ) (os : List OutputRead) (i : ℕ) (o : OutputRead)
    → IsDistinct bytes_eq (map (λ (o : OutputRead). o.name) os)
    → i < length os → o ≡ get_or os i o → bytes_eq name o.name ≡ true
    → Some o ≡ find (λ (o : OutputRead). bytes_eq name o.name) os
find_here name os i o distinct less at t =
    let named = map (λ (q : OutputRead). (q.name, q)) os in
    sym (lookup-from_Contains nat_list_eq_equiv name o named
    (subst (IsDistinct bytes_eq) (names_written (λ (q : OutputRead). q) os) distinct)
    (subst (λ n. Contains named (n, o)) (sym ((bytes_eq-Decides name o.name).0 t))
    (into_map (λ (q : OutputRead). (q.name, q)) os o (i, less, sym at))))
    ∙ look_up (λ (q : OutputRead). q) name os ∙ option_map_id (find (λ (o : OutputRead). bytes_eq name o.name) os)
