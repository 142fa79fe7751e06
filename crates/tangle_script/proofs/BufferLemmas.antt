-- The bytes of a buffer after more were read at its end, and after some were dropped at its front.
use Rattle.std.proofs.Common.{rules}
use Rattle.std.proofs.Common.{◌≡◌, ◌∙◌, ℕ, ◌+◌, ◌-◌, ◌<◌, ◌≤◌, List, ◌++◌, length, take, drop, Option, Some, None}
use Rattle.std.proofs.Common.{sym, ap, arith}
use Rattle.std.specs.Prelude.{IfSome}
use Rattle.std.specs.List.{copy_within}
use Rattle.std.proofs.lemmas.List.{take_at, drop_at, take-append-le, drop-take, length-take-le, length-drop}
use Rattle.std.proofs.lemmas.List.Edits.{take-paste}
use Rattle.std.specs.Io.KnownBytes.{Consumes, IsAtEnd}
use Rattle.tangle_streams.specs.Feeds.{Gives}
use Rattle.std.proofs.Math.Nat.{pow-le-pow_right}
use borrow.Rule.Slice.PartMut.{put_mid, post_of}
use lib.Seq.{paste, take-add}

pub read_after : (xs ys : List ℕ) (len end : ℕ) (a b : Option (List ℕ)) (r : Option ℕ)
    → len ≤ length xs → 0 < length ys → IfSome r (λ n. n ≤ length ys) → Gives a b ys r
    → IfSome r (λ n. (chunk : List ℕ) × (length chunk ≡ n)
    × (take (len + n) (put_mid len end xs ys) ≡ take len xs ++ chunk)
    × Consumes a b chunk × (n ≡ 0 → IsAtEnd b))
read_after xs ys len end a b None within some fits gives = tt
read_after xs ys len end a b (Some n) within some fits gives =
    let front = length-take-le len xs within in
    let after = ys ++ post_of len end xs in (
      take n ys,
      length-take-le n ys fits,
      take-add len n (take len xs ++ after)
          ∙ (search (rules, take_at, drop_at, take-append-le)),
      gives.0,
      λ none. gives.1 none some,
    )

pub moved : (all : List ℕ) (from len n : ℕ) → n + from ≡ len → len ≤ length all
    → take n (copy_within all from len 0) ≡ drop from (take len all)
moved all from len n sum within =
    let left : len - from ≡ n = omega arith in
    let parts : len ≡ from + n = omega arith in
    let none : n ≡ 0 + n = omega arith in
    rw (left, parts) (ap (λ k. take k (paste all 0 (drop from all) n)) none
    ∙ take-paste all 0 (drop from all) n (omega arith) (omega (arith, length-drop from all))
    ∙ sym (drop-take from n all))

pub ruleset powers = (pow-le-pow_right)
