-- The number of symbols of a body, where used names have none, is the own weight of its shape.
use Rattle.std.proofs.Common.{rules}
use Rattle.std.proofs.lemmas.Bool.Decides.{nat_tests}
use Rattle.std.proofs.Common.{◌≡◌, ℕ, ◌+◌, List, [], ◌∷◌, ◌++◌, map, length, refl}
use Rattle.std.proofs.Common.{arith}
use Rattle.tangle_text.specs.Runs.{parts_of}
use Rattle.tangle_text.specs.declared.runs.RunPart.{RunPart}
use Rattle.tangle_bodies.specs.Shapes.{Program, Shape}
use Rattle.tangle_bodies.specs.Flat.{own_counts, own_weight}
use Rattle.tangle_bodies.specs.Flat.{own_symbols}
use Rattle.tangle_bodies.specs.NodeBodies.{HoldsShape}
use Rattle.tangle_scan.specs.UnfoldedTags.{part_tag, run_tags, kind_tags, unfolded_tags}
use Rattle.tangle_bodies.specs.declared.nodes.NodeBody.{NodeBody}
use Rattle.tangle_scan.specs.declared.texts.ItemKind.{ItemKind}
use Rattle.tangle_scan.specs.declared.texts.ItemTag.{ItemTag}

pub own_counts-append : (tags more : List ItemTag) → own_counts (tags ++ more) ≡ own_counts tags + own_counts more
own_counts-append [] more = omega arith
own_counts-append (t ∷ tags) more = omega (arith, own_counts-append tags more)

-- the parts of a run have no symbols besides their bytes

parts_count : (ps : List RunPart) → own_counts (map part_tag ps) ≡ 0
parts_count [] = refl
parts_count (x ∷ ps) = grind (arith, nat_tests, parts_count ps)

kind_count : (k : ItemKind) (t : ItemTag) (bytes : List ℕ)
    → t.kind ≡ k → own_counts (kind_tags k t bytes) ≡ length (own_symbols Program 0 0 t.kind)
unfolding run_tags
kind_count k t bytes is = search (rules, parts_count (parts_of 0 0 0 bytes))

unfolded_count : (tags : List ItemTag) (bytes : List ℕ) → own_counts (unfolded_tags tags bytes) ≡ own_counts tags
unfolded_count [] bytes = refl
unfolded_count (t ∷ tags) bytes =
    grind (arith, nat_tests, own_counts-append, kind_count t.kind t, unfolded_count tags)

pub body_counted : (names : List (List ℕ)) (shape : Shape) (body : NodeBody) → HoldsShape names shape body
    → length body.items.value.bytes.items + own_counts body.items.value.tags.items ≡ own_weight shape
body_counted names shape body h = search (rules, unfolded_count)
