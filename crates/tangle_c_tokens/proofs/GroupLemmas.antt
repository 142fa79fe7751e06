-- A group with one item more.
use Rattle.std.proofs.lemmas.List.Concat.{flat_map-append}
use Rattle.std.proofs.Common.{rules, ℕ, flat_map, ◌≡◌, List, [], ◌∷◌, ◌++◌, Option, Some, refl}
use Rattle.std.specs.List.{last_or}
use Rattle.tangle_lexer.specs.declared.tokens.Token.{Token}
use Rattle.tangle_c_tokens.specs.Groups.{group_before}

pub last-item : (o : Option Token) (items : List Token) (e : Token) → last_or o (items ++ e ∷ []) ≡ Some e
last-item o [] e = refl
last-item o (x ∷ items) e = last-item (Some x) items e

pub text-more : (f : Token → List ℕ) (items : List Token) (e : Token) → flat_map f (items ++ e ∷ []) ≡ flat_map f items ++ f e
text-more f items e = search (rules, flat_map-append)

pub group-one : (items : List Token) (e : Token) (rest : List Token) →
    group_before rest (items ++ e ∷ []) ≡ record { items = items ++ e ∷ []; rest = rest } ∷ []
group-one [] e rest = refl
group-one (x ∷ items) e rest = refl
