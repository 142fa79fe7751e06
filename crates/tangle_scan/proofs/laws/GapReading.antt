-- What a C compiler reads of gaps that are written one after another.
use Rattle.std.proofs.lemmas.Bool.Decides.{nat_tests}
use Rattle.std.proofs.Common.{arith}
use Rattle.std.proofs.Common.{◌≡◌, ℕ, Bool, false, ◌&&◌, ◌==◌, not, List, [], ◌∷◌, ◌++◌, refl}
use Rattle.std.proofs.Common.{append_assoc, if◌then◌else◌}
use Rattle.std.proofs.lemmas.List.Elements.{filter-append}
use Rattle.std.proofs.Math.Bool.{and-true}
use Rattle.tangle_files.specs.Bytes.{space}
use Rattle.tangle_lines.specs.declared.origin.Origin.{Origin}
use Rattle.tangle_scan.specs.ReadAsMeant.{Gap, Space, gap_bytes, as_read, is_empty}
use Rattle.tangle_scan.specs.ReadAsMeant.{without_spaces}

pub some-append : {X : Type 0} (xs : List X) (y : X) (ys : List X) → is_empty (xs ++ y ∷ ys) ≡ false
some-append [] y ys = refl
some-append (x ∷ xs) y ys = refl

-- the first part of a gap hides the backslash before it from what comes after
pub read-append : (after : Bool) (gap more : List Gap)
    → as_read after (gap ++ more) ≡ as_read after gap ++ as_read (after && is_empty gap) more
read-append after [] more = rw (and-true after) refl
read-append after (x ∷ gap) more = grind (arith, nat_tests, read-append false gap more)

pub spaces-append : (xs ys : List ℕ) → without_spaces (xs ++ ys) ≡ without_spaces xs ++ without_spaces ys
spaces-append xs ys = filter-append (λ b. not (b == space)) xs ys

pub bytes-append : (mark : Origin → List ℕ) (gap more : List Gap)
    → gap_bytes mark (gap ++ more) ≡ gap_bytes mark gap ++ gap_bytes mark more
bytes-append mark [] more = refl
bytes-append mark (x ∷ gap) more = grind (arith, nat_tests, bytes-append mark gap more, append_assoc)

-- a blank before the end of a gap, if the flag says so
abbrev pub blank_before : Bool → List Gap → List Gap
blank_before blank gap = if blank then Space ∷ gap else gap
