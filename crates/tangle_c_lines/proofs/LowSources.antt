-- The numbers of source lines are low, if the files are within the limits of tables.
use Rattle.std.proofs.Common.{arith}
use Rattle.std.proofs.Common.{ℕ, zero, suc, ◌+◌, ◌<◌, ◌≤◌, ◌^◌, List, [], ◌∷◌, length}
use Rattle.std.specs.List.{AllByRecursion}
use Rattle.std.proofs.lemmas.List.Elements.{recursion_from_All}
use Rattle.tangle_files.specs.Adding.{IsWithinLimits, most_lines}
use Rattle.tangle_files.specs.Lines.{FileTable, lines_at}
use Rattle.tangle_files.specs.Roles.{RolesRead}
use Rattle.tangle_lines.specs.Reading.{source_of}
use Rattle.tangle_c_lines.specs.CountedLines.{SourceLinesAreLow}
use Rattle.tangle_c_tokens.proofs.kind_lemmas.LineFeeds.{AreNumbered, source-lines}

abbrev AreLow : ℕ → List (List ℕ) → Type 0
AreLow n ls = AreNumbered (λ n l. n < 2 ^ 32) n ls

lines-low : (n : ℕ) (ls : List (List ℕ)) → n + length ls ≤ 2 ^ 32 → AreLow n ls
lines-low n [] le = tt
lines-low n (l ∷ ls) le = (omega (arith, le), lines-low (n + 1) ls (omega (arith, le)))

files-low : (files : FileTable) → AllByRecursion (λ f. length f.1 ≤ most_lines) files → (n : ℕ) → AreLow 1 (lines_at files n)
files-low [] h n = tt
files-low (f ∷ files) h zero = lines-low 1 f.1 (omega (arith, h.0))
files-low (f ∷ files) h (suc n) = files-low files h.1 n

pub source_low : (files : FileTable) (roles : RolesRead) → IsWithinLimits files → SourceLinesAreLow (source_of files roles).lines
source_low files roles within =
    source-lines (λ n l. n < 2 ^ 32) files roles (files-low files (recursion_from_All _ files within.lines))
