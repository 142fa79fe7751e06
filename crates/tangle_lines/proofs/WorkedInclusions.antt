-- Worked inclusions: the name in each line.
use Rattle.std.proofs.Common.{rules}
use Rattle.std.proofs.Common.{◌≡◌, ℕ, List, [], ◌∷◌, ◌++◌, None, Some, codes, map}
use Rattle.tangle_lines.specs.Inclusion.{included_name}

-- the five bytes of white space
abbrev white : List ℕ
white = 32 ∷ 9 ∷ 13 ∷ 11 ∷ 12 ∷ []

record Names : Type 0 where
  pub rest_of_the_line : included_name (codes "@i b.w c") ≡ Some (codes "b.w")
  pub capital : included_name (codes "@I b.w") ≡ Some (codes "b.w")
  pub third_byte : included_name (codes "@include x") ≡ Some (codes "nclude")
  pub white_space : included_name (codes "@i" ++ white ++ codes "b.w") ≡ Some (codes "b.w")
  pub ends : map (λ b. included_name (codes "@i b" ++ b ∷ codes "c")) (34 ∷ white)
      ≡ map (λ b. Some (codes "b")) (34 ∷ white)
  pub in_quotes : included_name (codes "@i \" b\tc \"d\"") ≡ Some (codes " b\tc ")
  pub quote_without_end : included_name (codes "@i \"b c") ≡ Some (codes "b c")
  pub white_space_alone : included_name (codes "@i  ") ≡ Some []
  pub empty_name : included_name (codes "@i\"\" b") ≡ Some []
  pub not_at_the_front : included_name (codes " @i b") ≡ None

names : Names
names = search rules
