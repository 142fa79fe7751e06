use Rattle.std.proofs.Common.{◌==◌, arith, drop, drop-drop, refl}
use Rattle.tangle_files.specs.Bytes.{space}
use Rattle.tangle_lines.specs.Bytes.{is_white}
use Rattle.tangle_text.proofs.RunLemmas.{prefix-more}
use Rattle.tangle_text.proofs.reader.white_end.Goals as goal

pub loop-end-init : goal.loop-end-init
loop-end-init c =
    let more = prefix-more (λ b. b == space) is_white (λ b h. rw h refl) (drop c.args.from c.args.bytes.now) in
    grind (arith, more, drop-drop)
