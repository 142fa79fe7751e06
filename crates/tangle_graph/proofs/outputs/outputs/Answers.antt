use Rattle.std.proofs.Common.{rules}
use Rattle.std.proofs.Common.{◌≡◌, ◌∙◌, ◌<◌, length, suc, get_or, append_assoc}
use Rattle.std.proofs.Common.{arith, append-nil, ◌||◌}
use Rattle.std.specs.Prelude.{All}
use Rattle.tangle_bodies.specs.Shapes.{Named, Program}
use Rattle.tangle_bodies.specs.WebShapes.{name_at, shapes}
use Rattle.tangle_graph.specs.Measures.{measure_of}
use Rattle.tangle_graph.specs.Outputs.{named_file, is_written, is_expandable}
use Rattle.tangle_graph.specs.Outputs.{is_earlier_file, is_main_file}
use Rattle.tangle_graph.proofs.ListLemmas.{mapped_more}
use Rattle.tangle_graph.proofs.NodeMeasureLemmas.{piece_by_measure}
use Rattle.tangle_graph.proofs.outputs.outputs.Goals as goal

pub loop-id-init : goal.loop-id-init
loop-id-init c =
    let measured : c.entry-main.result ≡ measure_of (shapes c.args.web.now c.args.table.now) Program =
    search rules in
    let has = piece_by_measure (shapes c.args.web.now c.args.table.now) Program _ measured in search
    rules

pub loop-id-preserved : goal.loop-id-preserved
loop-id-preserved c =
    let web = c.args.web.now in
    let table = c.args.table.now in
    let out = c.args.out.now in
    let xs = c.deref-id-items.result.now in
    let i = c.loop-id.id-index in
    let id = get_or xs i 0 in
    let below : All (λ k. k < length table.names) xs =
    rw c.deref-id-items.ensures.value c.in_ok-names.ensures.inside in
    let low : id < length table.names = below i 0 c.loop-id-test.true in
    let room : suc id < length c.args.measures.now = omega (arith, low, c.requires.size) in
    let node : c.name-node.result ≡ suc id = omega (arith, c.name-node.ensures, room) in
    let flag : c.entry-measure.result.is_expandable
    ≡ is_expandable (shapes web table) (Named (name_at table id)) =
    search rules in
    let flagged = c.in_ok-named.ensures (shapes web table) c.requires.measures in
    let other : c.has_other_name-is_other.result
    ≡ (is_main_file (shapes web table) table out id || is_earlier_file (shapes web table) table out id) =
    c.has_other_name-is_other.ensures ∙ (λ i. (flagged id low i).0 || (flagged id low i).1) in
    let more = mapped_more (is_written web table out) (named_file table) xs i 0 c.loop-id-test.true in
    search (rules, append_assoc, append-nil)
