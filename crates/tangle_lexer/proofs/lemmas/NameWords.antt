-- How a name in normal form grows with the bytes that are read.
use Rattle.std.proofs.lemmas.Bool.{cases_Bool}
use Rattle.std.proofs.lemmas.Bool.Decides.{nat_tests}
use Rattle.std.proofs.Common.{◌≡◌, ℕ, List, [], ◌∷◌, ◌++◌, Bool, true, false, not, ◌==◌, ◌&&◌, ◌∙◌, nat_lt, inl, inr, append_assoc}
use Rattle.std.proofs.Common.{append-nil, sym, arith, if◌then◌else◌, filter}
use Rattle.std.specs.List.{onto_first, join_with_byte}
use Rattle.tangle_files.specs.Bytes.{space}
use Rattle.tangle_lines.specs.Bytes.{is_white}
use Rattle.tangle_lexer.specs.Names.{has_bytes, normal_form, onto_part, form_after}

-- before any byte is read, and after all of them

pub form-none : (white : Bool) (bytes : List ℕ) → form_after [] white bytes ≡ normal_form bytes
unfolding form_after
form-none white bytes = grind (arith, nat_tests)

pub form-end : (name : List ℕ) (white : Bool) → form_after name white [] ≡ name
unfolding form_after
form-end name white = grind (arith, nat_tests, append-nil name)

-- one byte more

pub form-white : (name : List ℕ) (white : Bool) (b : ℕ) (rest : List ℕ)
    → is_white b ≡ true → form_after name white (b ∷ rest) ≡ form_after name true rest
unfolding form_after
form-white name white b rest is = grind (arith, nat_tests, append-nil name)

-- bytes before the first of these parts
joined : (x : ℕ) (word : List ℕ) (b : ℕ) (parts : List (List ℕ))
    → join_with_byte space (filter has_bytes (onto_part (x ∷ word ++ space ∷ b ∷ []) parts))
    ≡ x ∷ word ++ space ∷ join_with_byte space (filter has_bytes (onto_first b parts))
joined x word b parts = grind (arith, nat_tests, append_assoc)

-- the byte is added, after a space if one is needed
pub form-other : (name : List ℕ) (white : Bool) (b : ℕ) (rest : List ℕ) → is_white b ≡ false
    → form_after name white (b ∷ rest)
    ≡ form_after (name ++ (if white && has_bytes name then space ∷ b ∷ [] else b ∷ [])) false rest
unfolding form_after
form-other name white b rest is = grind (arith, nat_tests, append_assoc, joined)

-- names that are in normal form as they are stored

-- these bytes are past the space but for single spaces between them, where white space or nothing is before them or not
abbrev pub is_single_spaced : Bool → List ℕ → Bool
is_single_spaced white [] = not white
is_single_spaced white (b ∷ bs) =
    if nat_lt space b then is_single_spaced false bs else not white && b == space && is_single_spaced true bs

-- they are added as they are
spaced-form : (name : List ℕ) (white : Bool) (bytes : List ℕ) → is_single_spaced white bytes ≡ true
    → (white ≡ false → has_bytes name ≡ true)
    → form_after name white bytes ≡ name ++ (if white && has_bytes name then space ∷ bytes else bytes)
spaced-form name true [] h some = cc
spaced-form name false [] h some = form-end name false ∙ sym (append-nil name)
spaced-form name white (b ∷ bs) h some =
    elim (cases_Bool (nat_lt space b)) [
      | inl past ↦
          grind (arith, append_assoc name, form-other name white b bs (grind (arith, nat_tests)), spaced-form (name ++ (if white && has_bytes name then space ∷ b ∷ [] else b ∷ [])) false bs)
      | inr other ↦ grind (arith, nat_tests, form-white name white b bs, spaced-form name true bs)
    ]

pub single-spaced : (bytes : List ℕ) → is_single_spaced true bytes ≡ true → normal_form bytes ≡ bytes
single-spaced bytes h = sym (form-none true bytes) ∙ spaced-form [] true bytes h (λ e. cc)
