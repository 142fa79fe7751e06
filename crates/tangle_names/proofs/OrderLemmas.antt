-- Prefixes in the order of bytes: the texts that begin with a prefix aren't below it, and are next to each other.
use Rattle.std.proofs.Common.{◌≡◌, true, false, [], ◌∷◌, refl, arith}
use Rattle.std.specs.Ordering.{nat_cmp, is_lt, is_gt}
use Rattle.std.specs.Cmp.Lexicographic.{slice_cmp}
use Rattle.std.proofs.lemmas.Bool.Decides.{nat_tests}
use Rattle.tangle_names.specs.Names.{NameText, begins_with}

-- a text that begins with the prefix isn't below it
pub begins-above : (p t : NameText) → begins_with p t ≡ true → is_lt (slice_cmp nat_cmp t p) ≡ false
begins-above [] [] begun = refl
begins-above [] (b ∷ t) begun = refl
begins-above (c ∷ p) [] begun = absurd (cc)
begins-above (c ∷ p) (b ∷ t) begun = grind (arith, nat_tests, begins-above p t)

-- a text that is neither below a prefix nor above a text with this prefix has the prefix too
pub begins-between : (p t u : NameText) → is_lt (slice_cmp nat_cmp t p) ≡ false → is_gt (slice_cmp nat_cmp t u) ≡ false
    → begins_with p u ≡ true → begins_with p t ≡ true
begins-between [] t u low high begun = refl
begins-between (c ∷ p) (b ∷ t) (a ∷ u) low high begun = grind (arith, nat_tests, begins-between p t u)
begins-between p t u low high begun = absurd (cc)
