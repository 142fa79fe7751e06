use Rattle.std.proofs.Common.{rules}
use Rattle.std.proofs.Common.{◌≡◌, ◌-◌, ℕ, List, [], refl, ap, arith}
use Rattle.tangle_files.specs.Sharing.{slice_of}
use Rattle.tangle_text.specs.NameBytes.{BeginsName}
use Rattle.tangle_text.proofs.ChunkLemmas.{bytes_begin}
use Rattle.tangle_text.proofs.reader.Reader.take_name_bytes.Goals as goal
use Rattle.tangle_text.proofs.reader.Reader.take_name_bytes.Goals.{then-not-self, else-not-self}

nothing_begins : (read : List ℕ) → read ≡ [] → BeginsName read [] []
nothing_begins read is = record { units = rw is refl; end = refl; shorter = omega arith }

pub returns : goal.returns
returns c =
    let r = c.self.inside in
    let bytes = c.self.invariant.1.1.1.1 in
    elim c.if-not-self.branch [
      | then-not-self w ↦
          let end = w.at_sign_from-self-inside in
          let same = ap (λ line. slice_of line r.column (end.result - r.column)) bytes in
          let begins = bytes_begin r.source.now.lines r.bytes.now r.line r.column end.result
          end.ensures.low end.ensures.high end.ensures.before in
          search rules
      | else-not-self w ↦
          search (rules, nothing_begins)
    ]
