use Rattle.std.proofs.Common.{◌≡◌, ◌+◌, ◌≤◌, Bool, true, false, List, ℕ, zero, drop, length, refl, arith}
use Rattle.std.proofs.Common.{length-drop}
use Rattle.std.specs.List.{prefix_len}
use Rattle.std.proofs.lemmas.List.Sums.{prefix_len-le-length}
use Rattle.tangle_lines.specs.Reading.{SourceLine}
use Rattle.tangle_text.specs.Text.{text_from}
use Rattle.tangle_text.specs.Regions.{is_ordinary, AreOrdinary}
use Rattle.tangle_text.specs.Ahead.{rest_of}
use Rattle.tangle_text.proofs.RunLemmas.{rest_of-further}
use Rattle.tangle_text.proofs.OrdinaryBytes.{run-ordinary}
use Rattle.tangle_text.proofs.reader.Reader.skip_ordinary.Goals as goal

-- at a position of a line, and after the last line
skipped : (lines : List SourceLine) (bytes : List ℕ) (line column end : ℕ) (done : Bool)
    → column ≤ length bytes → end ≡ column + prefix_len is_ordinary (drop column bytes)
    → (n : ℕ) × (rest_of lines bytes line end done ≡ drop n (rest_of lines bytes line column done))
    × AreOrdinary n (rest_of lines bytes line column done)
skipped lines bytes line column end true h is = (zero, refl, tt)
skipped lines bytes line column end false h is =
    let n = prefix_len is_ordinary (drop column bytes) in (
      n,
      grind (arith, rest_of-further lines bytes line column n false, prefix_len-le-length is_ordinary (drop column bytes), length-drop column bytes),
      run-ordinary line column (drop column bytes) (text_from (line + 1) (drop (line + 1) lines)),
    )

pub returns : goal.returns
returns c = rw (← c.self.view_is) (skipped _ _ _ _ _ _ (omega (
  arith,
  c.self.invariant,
)) c.end_of-self-inside.ensures.end)
