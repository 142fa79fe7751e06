-- The full names of a web in the order of their bytes. Only private contracts cite these
-- definitions.
use Rattle.std.specs.Prelude.{◌&&◌, ℕ, Bool, true, false, List, [], length, map, nat_lt}
use Rattle.std.specs.Prelude.{slice_index_or, Contains}
use Rattle.std.specs.Ordering.{nat_cmp}
use Rattle.std.specs.Cmp.Lexicographic.{slice_cmp}
use Rattle.std.specs.List.Sorted.{IsStrictlySortedBy}
use Rattle.std.specs.Borrow.{Bor}
use Rattle.tangle_names.specs.declared.sorted.Meaning.{Meaning as Found}
use Rattle.tangle_names.specs.declared.sorted.Meaning.TheVariants as found
use Rattle.tangle_names.specs.Names.{NameText, Meaning, Nothing, One, Several, begins_with}

-- the texts of the slices
abbrev pub borrowed_names : List (Bor NameText) → List NameText
borrowed_names slices = map (λ (b : Bor NameText). b.now) slices

-- the meaning that the code's value represents
abbrev pub meaning_of : Found → Meaning
meaning_of found.Nothing = Nothing
meaning_of (found.One text) = One text.now
meaning_of found.Several = Several

abbrev pub is_several : Meaning → Bool
is_several Several = true
is_several _ = false

-- each text is below the next one in the order of bytes
abbrev pub IsInOrder : List NameText → Type 0
IsInOrder texts = IsStrictlySortedBy (slice_cmp nat_cmp) texts

-- the two lists have the same texts
pub record SameTexts (xs ys : List NameText) : Type 0 where
  pub over : (t : NameText) → Contains xs t → Contains ys t
  pub back : (t : NameText) → Contains ys t → Contains xs t

-- the text at this position begins with the prefix
abbrev pub begins_at : List NameText → NameText → ℕ → Bool
begins_at texts p position =
    nat_lt position (length texts) && begins_with p (slice_index_or texts position [])
