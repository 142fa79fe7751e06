use Rattle.std.proofs.Common.{rules}
use Rattle.std.proofs.Common.{◌≡◌, ◌==◌, ◌&&◌, not, false, get_or}
use Rattle.std.proofs.lemmas.Bool.{ne_eqb}
use Rattle.std.proofs.Math.Bool.{and-false}
use Rattle.tangle_text.proofs.QuoteLemmas.{ordinary-to, quote-on}
use Rattle.tangle_text.proofs.runs.quote_end.Goals as goal
use Rattle.tangle_text.proofs.runs.quote_end.Goals.{then-byte-eq92, else-byte-eq92}

pub loop-end-preserved-then-not-is_escaped-2 : goal.loop-end-preserved-then-not-is_escaped-2
loop-end-preserved-then-not-is_escaped-2 c =
    let at = c.loop-end.invariant in
    let byte = get_or c.args.bytes.now c.loop-end.end 0 in
    let other : (byte == c.args.close && not c.loop-end.is_escaped) ≡ false = search (rules, and-false, ne_eqb) in
    search (rules, then-byte-eq92, else-byte-eq92, ne_eqb, quote-on)

pub loop-end-init : goal.loop-end-init
loop-end-init c = search (rules, ordinary-to)
