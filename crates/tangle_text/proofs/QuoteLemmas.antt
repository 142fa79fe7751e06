-- Where a quoted text is closed.
use Rattle.std.proofs.lemmas.Bool.Decides.{nat_tests}
use Rattle.std.proofs.Common.{◌≡◌, ℕ, ◌+◌, ◌-◌, ◌==◌, ◌&&◌, not, Bool, zero, suc, true, false, List, [], ◌∷◌, drop, drop-drop, get_or, length, ◌≤◌, ◌<◌}
use Rattle.std.proofs.Common.{arith, refl}
use Rattle.std.proofs.Math.Numerals.{one-add}
use Rattle.std.proofs.lemmas.List.{at_drop_more}
use Rattle.std.specs.List.{prefix_len}
use Rattle.tangle_lines.specs.Bytes.{at_sign}
use Rattle.tangle_text.specs.Bytes.{backslash}
use Rattle.tangle_text.specs.Regions.{is_ordinary}
use Rattle.tangle_text.specs.Runs.{is_quote, quote_size}

-- this number more, unless there are none
abbrev pub after_some : ℕ → ℕ → ℕ
after_some k zero = 0
after_some k (suc n) = suc (k + n)

module _ (close : ℕ) (is : is_quote close ≡ true) where
  -- ordinary bytes
  quote-ordinary : (bs : List ℕ) →
      let n : ℕ = prefix_len is_ordinary bs in quote_size close false bs ≡ after_some n (quote_size close false (drop n bs))
  quote-ordinary [] = refl
  quote-ordinary (b ∷ bs) = grind (arith, nat_tests, one-add (prefix_len is_ordinary bs), quote-ordinary bs)

  module _ (bytes : List ℕ) where
    -- ordinary bytes up to a column
    pub ordinary-to : (from end : ℕ) → end ≡ from + prefix_len is_ordinary (drop from bytes)
        → quote_size close false (drop from bytes) ≡ after_some (end - from) (quote_size close false (drop end bytes))
    ordinary-to from end is = grind (arith, quote-ordinary (drop from bytes), drop-drop)

    -- a byte of the text that takes none with it, and the ordinary bytes after it
    pub quote-on : (escaped : Bool) (from end next : ℕ) → from ≤ end → end < length bytes
        → (get_or bytes end 0 == at_sign) ≡ false → (get_or bytes end 0 == close && not escaped) ≡ false
        → (get_or bytes end 0 == backslash && not escaped) ≡ false
        → quote_size close false (drop from bytes) ≡ after_some (end - from) (quote_size close escaped (drop end bytes))
        → next ≡ end + 1 + prefix_len is_ordinary (drop (end + 1) bytes)
        → quote_size close false (drop from bytes) ≡ after_some (next - from) (quote_size close false (drop next bytes))
    quote-on escaped from end next low inside at other takes so_far is =
        grind (arith, nat_tests, at_drop_more (quote_size close escaped) bytes end 0 inside, ordinary-to (end + 1) next is)
