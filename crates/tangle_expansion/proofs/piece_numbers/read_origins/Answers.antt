use Rattle.std.proofs.Common.{◌∙◌, ◌++◌, ◌∷◌, [], ap, get_or}
use Rattle.tangle_scan.specs.Texts.{text_of}
use Rattle.tangle_expansion.proofs.LookupLemmas.{origins_read}
use Rattle.tangle_expansion.proofs.piece_numbers.read_origins.Goals as goal

pub loop-origin-init : goal.loop-origin-init
loop-origin-init c =
    let p = c.index-pieces-number.result in
    let text = text_of c.piece_text.result in
    record {
      read = ap (λ os. os ++ text.marks) (c.in_ok-push_origin.ensures.pushed ∙ ap (λ os. os ++ (get_or c.pieces-pieces.result.now c.args.number p).origin ∷ []) c.clear.ensures.items)
          ∙ origins_read c.args.web.now c.pieces-pieces.result.now c.args.number p text c.pieces-pieces.ensures.pieces
          c.requires c.piece_text.ensures.text;
      low = c.in_ok-push_origin.ensures.low;
    }
