-- A number in decimal has digits alone.
use Rattle.std.proofs.Common.{◌≡◌, ℕ, zero, suc, true, false, List}
use Rattle.std.proofs.Common.{[]}
use Rattle.std.proofs.Common.{refl}
use Rattle.std.proofs.Common.{arith}
use Rattle.std.specs.Prelude.{decimal}
use Rattle.std.specs.Fmt.{digits_onto, digits}
use Rattle.std.specs.List.{list_all}
use Rattle.c_tokens.specs.Bytes.{is_digit}
use Rattle.std.proofs.lemmas.Bool.Decides.{nat_tests}

all-digits : (k n : ℕ) (more : List ℕ) → list_all is_digit more ≡ true
    → list_all is_digit (digits_onto k 10 false n more) ≡ true
all-digits zero n more all = all
all-digits (suc k) n more all = grind (arith, nat_tests, all-digits k)

pub decimal-digits : (n : ℕ) → list_all is_digit (decimal n) ≡ true
unfolding digits
decimal-digits n = all-digits 64 n [] refl
