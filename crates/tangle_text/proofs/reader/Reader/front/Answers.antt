use Rattle.std.proofs.Common.{rules}
use Rattle.tangle_text.proofs.AheadLemmas.{front-byte, front-line_end}
use Rattle.tangle_text.proofs.reader.Reader.front.Goals as goal

pub returns-then-self-2-clause-front : goal.returns-then-self-2-clause-front
returns-then-self-2-clause-front c = (let r = c.self.inside in (
    let front = front-byte r.source.now.lines r.bytes.now r.line r.column in search (rules, front)))

pub returns-else-self-2-clause-front : goal.returns-else-self-2-clause-front
returns-else-self-2-clause-front c = (let r = c.self.inside in (
    let front = front-line_end r.source.now.lines r.bytes.now r.line r.column in search (rules, front)))
