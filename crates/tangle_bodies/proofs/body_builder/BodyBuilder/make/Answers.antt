use Rattle.std.proofs.Common.{ap, arith}
use Rattle.std.proofs.lemmas.List.{map-append, take_all, take_more}
use Rattle.tangle_scan.specs.Texts.{text_of}
use Rattle.tangle_bodies.specs.Nodes.{pieces_at}
use Rattle.tangle_bodies.proofs.AddingPieces.{piece_added}
use Rattle.tangle_bodies.proofs.body_builder.BodyBuilder.make.Goals as goal

pub loop-number-preserved : goal.loop-number-preserved
loop-number-preserved c =
    let more = take_more c.args.numbers.now c.loop-number.number-index 0 c.loop-number-test.true in
    piece_added c.args.web.now.texts c.args.table.now _ _ _ _ _ (text_of c.piece_text.result)
    (simp map-append at (ap (pieces_at c.args.web.now.pieces) more))
    c.loop-number.invariant c.piece_text.ensures.text c.in_ok-add_piece.ensures

pub returns : goal.returns
returns c =
    let all = take_all c.loop-number.number-index c.args.numbers.now (omega arith) in
    (rw all at c.loop-number.invariant).made
