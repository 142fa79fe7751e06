use Rattle.std.proofs.Common.{arith, ℕ, [], length-append}
use Rattle.tangle_streams.proofs.StreamLemmas.{IsWritten-none}
use Rattle.tangle_faults.proofs.fault_line.write_fault.Goals as goal

pub returns : goal.returns
returns g c =
    let old = g.S.Sink.stream c.args.sink.now in
    let place_len = c.write_place_if_any-placed.ensures.short in
    let severity_len = c.severity.type_inv in
    let message_len = c.wording-ending.type_inv in
    let ending_len = c.write_ending-ended.ensures.short in
    let placed = c.write_place_if_any-placed.ensures.written old [] (IsWritten-none old) (omega arith) in
    let rated = c.write_after-rated.ensures old _ placed (omega (arith, length-append {A = ℕ})) in
    let reported = c.write_after-reported.ensures old _ rated (omega (arith, length-append {A = ℕ})) in
    let ended = c.write_ending-ended.ensures.written old _ reported (omega (arith, length-append {A = ℕ})) in
    let whole = c.write_after.ensures old _ ended (omega (arith, length-append {A = ℕ})) in
    rw (c.wording-ending.ensures.message, c.wording-ending.ensures.ending, c.severity.ensures, c.kind-kind.ensures, c.place.ensures)
    at whole
