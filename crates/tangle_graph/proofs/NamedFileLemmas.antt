-- Flags of names, and the forms of files, with one name more.
use Rattle.std.proofs.Common.{rules}
use Rattle.std.proofs.Common.{◌≡◌, ◌∙◌, ◌<◌, ◌+◌, ◌&&◌, ◌||◌, ℕ, suc, Bool, not}
use Rattle.std.proofs.Common.{List, [], ◌∷◌, ◌++◌, length, ap, sym, arith}
use Rattle.std.specs.Prelude.{if◌then◌else◌, nat_lt}
use Rattle.std.specs.Global.{Global}
use Rattle.std.specs.Str.{bytes_eq}
use Rattle.std.specs.declared.vec.Vec.{Vec}
use Rattle.std.proofs.lemmas.Bool.Decides.{nat_tests}
use Rattle.std.proofs.lemmas.List.Folds.{list_any-append}
use Rattle.std.proofs.lemmas.Slice.Eq.{bytes_eq-Decides}
use Rattle.tangle_graph.specs.NamedFiles.{HaveForms, has_form}
use Rattle.tangle_names.specs.NameTable.{TableRead}
use Rattle.tangle_bodies.specs.Shapes.{Named, Shapes}
use Rattle.tangle_bodies.specs.WebShapes.{name_at}
use Rattle.tangle_graph.specs.Measures.{AreMeasures, measure_at}
use Rattle.tangle_graph.specs.declared.measures.Measure.{Measure}
use Rattle.tangle_graph.proofs.ListLemmas.{any_more}
use Rattle.tangle_graph.proofs.NodeMeasureLemmas.{piece_by_measure}
use Rattle.tangle_graph.specs.Outputs.{shape_has_piece, form_at, is_file, is_named_file}
use Rattle.tangle_graph.specs.PlainForms.{plain_form}
use Rattle.tangle_graph.specs.NamedFiles.{flags_of}

-- one more form
pub form_more : (forms : List (Vec ℕ Global)) (form : Vec ℕ Global) (other : List ℕ)
    → has_form (if has_form forms form.items then forms else forms ++ form ∷ []) other
    ≡ (has_form forms other || bytes_eq other form.items)
form_more forms form other =
    let append = list_any-append (λ (o : Vec ℕ Global). bytes_eq other o.items) forms (form ∷ []) in
    grind (arith, nat_tests, bytes_eq-Decides other form.items, append)

-- what is recorded of a name says whether it has a piece
pub piece_of_name : (shapes : Shapes) (table : TableRead) (measures : List Measure) (id : ℕ) → id < length table.names
    → AreMeasures shapes table.names measures
    → nat_lt 0 (measure_at measures (suc id)).depth ≡ shape_has_piece (shapes (Named (name_at table id)))
piece_of_name shapes table measures id low measured = search (rules, piece_by_measure)

-- One name more: the forms with that of its file, and its two flags. It is said whether the name is that of a file, and
-- whether the form `text` of this file is the main file's.
pub flags_more : (shapes : Shapes) (table : TableRead) (out : List ℕ) (n : ℕ) (forms after : List (Vec ℕ Global))
    (file same : Bool) (text main_form : List ℕ) → HaveForms shapes table out n forms → is_file shapes table n ≡ file
    → text ≡ form_at table n → main_form ≡ plain_form out → bytes_eq text main_form ≡ same
    → ((f : List ℕ) → has_form after f ≡ (has_form forms f || ((file && not same) && bytes_eq f text)))
    → HaveForms shapes table out (n + 1) after
    × ((file && same, (file && not same) && has_form forms text) ≡ flags_of shapes table out n)
flags_more shapes table out n forms after file same text main_form have is text_is main_is same_is more =
    let alike : same ≡ bytes_eq (form_at table n) (plain_form out) =
    sym same_is ∙ (λ i. bytes_eq (text_is i) (main_is i)) in
    let named : (file && not same) ≡ is_named_file shapes table out n = λ i. sym is i && not (alike i) in (
      λ f. more f ∙ (λ i. have f i || (named i && bytes_eq f (text_is i)))
          ∙ sym (any_more (λ id. is_named_file shapes table out id && bytes_eq f (form_at table id)) n),
      (λ i. (sym is i && alike i, named i && (ap (has_form forms) text_is ∙ have (form_at table n)) i)),
    )
