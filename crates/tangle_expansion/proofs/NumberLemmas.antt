-- Rows for the nodes of a web, which are read by title: the numbers of pieces, and the titles of uses.
use Rattle.std.proofs.Common.{rules}
use Rattle.std.proofs.lemmas.Bool.Decides.{nat_tests}
use Rattle.std.proofs.Common.{◌≡◌, ◌≤◌, ◌<◌, ◌+◌, ◌∙◌, ℕ, zero, suc, false, List, [], ◌∷◌, map, length, get_or}
use Rattle.std.proofs.Common.{Option, None, Some, refl, ap, sym, arith, inl, inr}
use Rattle.std.specs.Global.{Global}
use Rattle.std.specs.declared.rc.Rc.{Rc}
use Rattle.std.proofs.lemmas.Bool.{cases_Bool}
use Rattle.std.specs.Prelude.{filter, nat_lt}
use Rattle.std.specs.List.{IsDistinct, position_or_len}
use Rattle.std.specs.Str.{bytes_eq}
use Rattle.std.proofs.lemmas.List.{get_or_past, get_or-map, length-map, same_lists}
use Rattle.std.proofs.lemmas.List.Sums.{fails_before_first, passes_at_first}
use Rattle.std.proofs.lemmas.Map.Made.{AllPairs-from_IsDistinct}
use Rattle.std.proofs.lemmas.Slice.Eq.{bytes_eq-Decides}
use borrow.Author.Tests.{ltb-true}
use Rattle.digraph.specs.Graph.{row_at}
use Rattle.tangle_scan.specs.Web.{WebRead, PieceRead}
use Rattle.tangle_names.specs.declared.Resolved.{Resolved}
use Rattle.tangle_names.specs.NameTable.{IsNameBelow, TableRead}
use Rattle.tangle_bodies.proofs.EachLemmas.{part_read, some_at}
use Rattle.tangle_bodies.specs.NodeBodies.{AreBodiesOf, body_uses, node_bodies}
use Rattle.tangle_bodies.specs.Nodes.{title_at, titles_at}
use Rattle.tangle_bodies.specs.Shapes.{Title, Program, Named, Shapes, shape_titles}
use Rattle.tangle_bodies.specs.WebShapes.{is_titled, title_of, title_of_piece, is_piece_of, pieces_of, resolved_at}
use Rattle.tangle_bodies.specs.WebShapes.{ResolvesInside, shape_of, shapes}
use Rattle.tangle_bodies.specs.declared.nodes.NodeBody.{NodeBody}
use Rattle.tangle_expansion.specs.Expanded.{used_titles}
use Rattle.tangle_expansion.specs.Numbers.{each_node, node_numbers, numbers_of, numbers_of_piece, row_number, titles_used}
use Rattle.tangle_expansion.specs.NumbersKept.{used_by_bodies}
use Rattle.tangle_files.specs.declared.marks.MarkMode.{MarkMode}

-- each name has one number
pub once_named : (names : List (List ℕ)) (n m : ℕ)
    → IsDistinct bytes_eq names → n < length names → m < length names → get_or names n [] ≡ get_or names m [] → n ≡ m
once_named names n m distinct hn hm e =
    let apart = AllPairs-from_IsDistinct bytes_eq-Decides names distinct in
    grind (arith, nat_tests, apart n m [], apart m n [])

-- a name that is not in the table has no piece
module _ (table : TableRead) (name : List ℕ)
    (none : length table.names ≤ position_or_len (bytes_eq name) table.names) where
  no_title : (r : Resolved) → IsNameBelow (length table.names) r → is_titled table (Named name) (title_of table r) ≡ false
  no_title r h = search (rules, fails_before_first)

  no_piece : ResolvesInside table → (o : Option ℕ) → is_titled table (Named name) (title_of_piece table o) ≡ false
  no_piece inside None = refl
  no_piece inside (Some occurrence) = no_title (resolved_at table occurrence) (inside occurrence)

  pub no_pieces : ResolvesInside table → (pieces : List PieceRead) → filter (is_piece_of table (Named name)) pieces ≡ []
  no_pieces inside [] = refl
  no_pieces inside (p ∷ pieces) = cc (no_piece inside p.occurrence, no_pieces inside pieces)

module _ (names : List (List ℕ)) where
  -- the row of a node is that with its number
  pub number_found : IsDistinct bytes_eq names → (node : ℕ) → node ≤ length names
      → row_number names (title_at names node) ≡ node
  number_found distinct zero low = refl
  number_found distinct (suc id) low =
      let name = get_or names id [] in
      let k = position_or_len (bytes_eq name) names in
      let here = (bytes_eq-Decides name name).1 refl in
      elim (cases_Bool (nat_lt k (length names))) [
        | inl e ↦
            let less = ltb-true k (length names) e in
            let found = (bytes_eq-Decides name (get_or names k [])).0 (passes_at_first (bytes_eq name) names [] less) in
            rw e (ap suc (sym (once_named names id k distinct low less found)))
        | inr e ↦ absurd (grind (arith, nat_tests, e, here, fails_before_first (bytes_eq name) names id []))
      ]

  -- what is made of a node
  pub at_node : {Y : Type 0} (f : Title → Y) (n : ℕ) (d : Y) → n < length names + 1
      → f (title_at names n) ≡ get_or (each_node names f) n d
  at_node f zero d h = refl
  at_node f (suc n) d h = sym (get_or-map (λ name. f (Named name)) names n [] d (omega arith))

  pub by_title : {X : Type 0} (f : Title → List X)
      → ((name : List ℕ) → length names ≤ position_or_len (bytes_eq name) names → f (Named name) ≡ [])
      → (node : Title) → row_at (each_node names f) (row_number names node) ≡ f node
  by_title f none Program = refl
  by_title f none (Named name) =
      let k = position_or_len (bytes_eq name) names in
      let of_name = λ (name : List ℕ). f (Named name) in
      elim (cases_Bool (nat_lt k (length names))) [
        | inl e ↦
            let low = ltb-true k (length names) e in
            rw e (get_or-map of_name names k [] [] low
            ∙ ap of_name (sym ((bytes_eq-Decides name (get_or names k [])).0 (passes_at_first (bytes_eq name) names [] low))))
        | inr e ↦ rw e (search (rules, get_or_past, length-map, none))
      ]

  -- the titles of what the bodies use, by title
  pub bodies_use : (all : Shapes) (bodies : List (Rc NodeBody Global)) → AreBodiesOf all names (node_bodies bodies)
      → used_by_bodies names bodies ≡ each_node names (used_titles all)
  bodies_use all bodies are =
      let titled = λ (body : NodeBody). titles_at names (body_uses body) in
      let size = length-map (node_bodies bodies) titled in
      same_lists (used_by_bodies names bodies) (each_node names (used_titles all))
      (omega (arith, size, are.size, length-map names (λ name. used_titles all (Named name))))
      (λ n d h. let body = some_at (node_bodies bodies) n (omega arith) in
      part_read titled (node_bodies bodies) n body.0 d body.1 ∙ (are.each n body.0 body.1).shape.uses
      ∙ at_node (used_titles all) n d (omega (arith, are.size)))

-- what the numbers of a web say of a node with a title
module _ (web : WebRead) (table : TableRead) (marks : MarkMode) (inside : ResolvesInside table) where
  pub node_numbers_of : (node : Title)
      → node_numbers (numbers_of web table marks) node ≡ map numbers_of_piece (pieces_of web table node)
  node_numbers_of node = by_title table.names (λ node. map numbers_of_piece (pieces_of web table node))
      (λ name none. ap (map numbers_of_piece) (no_pieces table name none inside web.pieces)) node

  pub titles_used_of : titles_used (numbers_of web table marks) ≡ used_titles (shapes web table)
  titles_used_of = λ i node. by_title table.names (used_titles (shapes web table))
      (λ name none. ap (λ pieces. shape_titles (shape_of web.texts table pieces))
      (no_pieces table name none inside web.pieces)) node i
