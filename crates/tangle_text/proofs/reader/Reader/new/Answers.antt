use Rattle.std.proofs.Common.{arith}
use Rattle.tangle_text.proofs.AheadLemmas.{text_is_short, text_from-line}
use Rattle.tangle_text.proofs.reader.Reader.new.Goals as goal

pub returns-clause-short : goal.returns-clause-short
returns-clause-short c =
    let lines = c.args.source.now.lines in
    let short = text_is_short lines (omega (arith, c.count.ensures)) c.count.ensures.short in
    rw c.line.ensures.bytes (rw (text_from-line lines 0 (omega (arith, c.count.ensures))) at short)
