-- A reader goes over bytes of its line.
use Rattle.std.proofs.lemmas.Bool.Decides.{nat_tests}
use Rattle.std.proofs.Common.{◌≡◌, ℕ, ◌+◌, ◌-◌, ◌<◌, ◌≤◌, List, None, Some}
use Rattle.std.proofs.Common.{IsSome, length, take, drop, arith}
use Rattle.tangle_text.specs.declared.reader.Reader.TheInside.{Inside}
use Rattle.tangle_text.specs.declared.spans.Span.{Span}
use Rattle.tangle_text.specs.Text.{Cell, byte_at, bytes_of, span_at}
use Rattle.tangle_text.specs.Ahead.{rest_of}
use Rattle.tangle_text.specs.Runs.{run_count, run_size, run_at}
use Rattle.tangle_text.proofs.AheadLemmas.{at-byte}
use Rattle.tangle_text.proofs.RunLemmas.{rest_of-further, run-bytes}
use Rattle.tangle_text.proofs.RunPartLemmas.{run_count-rest}

-- a reader goes over `n` bytes of its line, up to a column
pub record Takes (r : Inside) (text : List Cell) (n end : ℕ) : Type 0 where
  pub span : record { line = r.line; start = r.column; end = end } ≡ span_at n text
  pub ahead : rest_of r.source.now.lines r.bytes.now r.line end r.is_done ≡ drop n text
  pub bytes : bytes_of (take n text) ≡ take (end - r.column) (drop r.column r.bytes.now)

pub takes : (r : Inside) (text : List Cell) (n end : ℕ)
    → rest_of r.source.now.lines r.bytes.now r.line r.column r.is_done ≡ text → IsSome (byte_at 0 text)
    → end ≡ r.column + n → end ≤ length r.bytes.now → Takes r text n end
takes r text n end is some ends fits =
    let ahead = rest_of-further r.source.now.lines r.bytes.now r.line r.column n r.is_done (omega arith) in
    let bytes = run-bytes r.source.now.lines r.bytes.now r.line r.column n (omega arith) in
    grind (arith, at-byte r text is some, ahead, bytes)

-- a reader goes over the run at its position

pub run_count-taken : (r : Inside) (text : List Cell)
    → rest_of r.source.now.lines r.bytes.now r.line r.column r.is_done ≡ text → IsSome (byte_at 0 text)
    → run_count text ≡ run_size 0 (drop r.column r.bytes.now)
run_count-taken r text is some =
    rw (← is, (at-byte r text is some).done) (run_count-rest r.source.now.lines r.bytes.now r.line r.column)

-- the run at the front, by its span
pub record IsRunAt (text : List Cell) (s : Span) : Type 0 where
  pub some : 0 < run_count text
  pub span : s ≡ span_at (run_count text) text

pub run_at-is : (text : List Cell) (s : Span) → run_at text ≡ Some s → IsRunAt text s
run_at-is text s h = grind (arith, nat_tests)

pub run_at-empty : (text : List Cell) → run_at text ≡ None → run_count text ≡ 0
run_at-empty text h = grind (arith, nat_tests)
