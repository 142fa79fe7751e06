-- Positions in a list, and the number of a name.
use Rattle.std.proofs.Common.{rules}
use Rattle.std.proofs.Common.{◌≡◌, ◌+◌, Bool, cond, not, List, [], ◌∷◌}
use Rattle.std.proofs.Common.{length, map, refl, ap, position, None}
use Rattle.std.specs.List.{position_or_len}
use Rattle.std.specs.Str.{bytes_eq}
use Rattle.std.proofs.lemmas.List.{length-map}
use Rattle.std.proofs.lemmas.List.Sums.{prefix_len-le-length}
use Rattle.tangle_names.specs.Names.{NameText}

pub position_or_len-map : {X Y : Type 0} (q : Y → Bool) (f : X → Y) (xs : List X)
    → position_or_len q (map f xs) ≡ position_or_len (λ x. q (f x)) xs
position_or_len-map q f [] = refl
position_or_len-map q f (x ∷ xs) = ap (λ n. cond (not (q (f x))) (1 + n) 0) (position_or_len-map q f xs)

pub position-map : {X Y : Type 0} (q : Y → Bool) (f : X → Y) (xs : List X)
    → position q (map f xs) ≡ position (λ x. q (f x)) xs
position-map q f xs = cc (position_or_len-map q f xs, length-map xs f)

pub number_after : (names : List NameText) (text : NameText)
    → None ≡ position (bytes_eq text) names → length names ≡ position_or_len (bytes_eq text) names
number_after names text none = search (rules, prefix_len-le-length)
