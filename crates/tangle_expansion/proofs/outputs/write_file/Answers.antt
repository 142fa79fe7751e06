use Rattle.std.proofs.Common.{append_assoc}
use Rattle.std.specs.Prelude.{Ok}
use Rattle.std.proofs.Common.{◌≡◌, refl}
use Rattle.tangle_bodies.specs.Nodes.{title_at}
use Rattle.tangle_expansion.specs.Expanded.{symbols_of}
use Rattle.tangle_expansion.specs.Numbers.{expansion_bytes, titles_used}
use Rattle.tangle_expansion.specs.Outputs.{node_symbols}
use Rattle.tangle_faults.proofs.WriteLemmas.{writes_then, written_whole}
use Rattle.tangle_expansion.proofs.ShortLemmas.{file_fits}
use Rattle.tangle_expansion.proofs.outputs.write_file.Goals as goal

pub returns : goal.returns
returns g c =
    let t = g.S.Sink.stream in
    let output = c.args.output.now in
    let numbers = c.args.numbers.now in
    let front = rw c.macros.ensures.macros at c.front_of.ensures in
    let fits = file_fits c.args.numbers.now c.macros.ensures.short output.has_macros
    (node_symbols c.args.numbers.now c.args.kept.now output.node) c.requires.light in
    let kept : expansion_bytes numbers
    (symbols_of (titles_used numbers) (title_at numbers.names c.node-node.result) c.kept_expansion.result.now)
    ≡ expansion_bytes numbers (node_symbols numbers c.args.kept.now output.node) =
    rw (c.node-node.ensures, rw c.node-node.ensures at c.kept_expansion.ensures) refl in
    rw (← c.has_piece.ensures, c.if-not-has_piece.false, ← append_assoc, ← front, ← kept)
    (written_whole (t c.args.sink.now) (t c.write_after.new.sink) c.write_after.result _
    (rw (← front, ← kept) at fits)
    (writes_then (t c.args.sink.now) _ (t c.write_after.new.sink) (Ok 0) _ c.write_after.result _ _
    (writes_then (t c.args.sink.now) _ _ (Ok 0) _ _ _ _ c.write_after-begun.ensures c.write_text_after-written.ensures.writes)
    c.write_after.ensures))
