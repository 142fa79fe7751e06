-- What the bytes of a token are, by its kind.
use Rattle.std.proofs.Common.{rules}
use Rattle.std.proofs.Common.{arith}
use Rattle.std.proofs.Common.{◌≡◌, ℕ, Bool, true, false, List, [], ◌∷◌, ◌++◌, codes}
use Rattle.std.proofs.Common.{refl}
use Rattle.std.specs.Prelude.{◌&&◌, ◌||◌, ◌==◌}
use Rattle.std.specs.List.{list_any, list_all}
use Rattle.std.specs.Str.{bytes_eq}
use Rattle.std.proofs.lemmas.Bool.{and_parts, or_cases, false≢true}
use Rattle.std.proofs.lemmas.Bool.{eqb-true}
use Rattle.std.proofs.lemmas.Slice.Eq.{bytes_eq-Decides}
use Rattle.c_tokens.specs.Bytes.{backslash, full_stop, double_quote, apostrophe, is_digit, is_word_byte, is_quote}
use Rattle.c_tokens.specs.Grammar.{is_identifier_byte, is_identifier, begins_number, is_number_byte, is_number}
use Rattle.c_tokens.specs.Grammar.{signs_follow_exponents, apostrophes_separate, has_universal_names}
use Rattle.c_tokens.specs.Grammar.{ends_quoted, is_quoted, is_character}
use Rattle.c_tokens.specs.Grammar.{is_string, has_prefix, is_character_constant, is_string_literal, punctuators}
use Rattle.c_tokens.specs.Grammar.{is_punctuator}
use Rattle.c_tokens.specs.Borders.{last_byte}
use Rattle.std.proofs.lemmas.Bool.Decides.{nat_tests}

pub all-weaker : (f g : ℕ → Bool) → ((b : ℕ) → f b ≡ true → g b ≡ true) → (t : List ℕ) → list_all f t ≡ true → list_all g t ≡ true
all-weaker f g weaker [] h = refl
all-weaker f g weaker (b ∷ t) h = grind (arith, weaker b, all-weaker f g weaker t)

-- identifiers and numbers

pub identifier-bytes : (t : List ℕ) → is_identifier t ≡ true → list_all is_identifier_byte t ≡ true
identifier-bytes t h = search rules

pub number-parts : (t : List ℕ) → is_number t ≡ true →
    (begins_number t ≡ true) × (list_all is_number_byte t ≡ true) × (signs_follow_exponents t ≡ true)
    × (apostrophes_separate t ≡ true) × (has_universal_names t ≡ true)
number-parts t h = search rules

pub number-from : (t : List ℕ) → begins_number t ≡ true → list_all is_number_byte t ≡ true → signs_follow_exponents t ≡ true →
    apostrophes_separate t ≡ true → has_universal_names t ≡ true → is_number t ≡ true
number-from t begins bytes signs separate names = search rules

pub number-first : (b : ℕ) (bs : List ℕ) → is_number (b ∷ bs) ≡ true → (is_digit b || b == full_stop) ≡ true
number-first b bs h = grind (arith, nat_tests)

-- punctuators

one-of : (test : List ℕ → Bool) (t : List ℕ) (ps : List (List ℕ)) → list_all test ps ≡ true →
    list_any (bytes_eq t) ps ≡ true → test t ≡ true
one-of test t [] all any = absurd (false≢true any)
one-of test t (p ∷ ps) all any = grind (arith, nat_tests, bytes_eq-Decides t p, one-of test t ps)

pub punctuator-is : (test : List ℕ → Bool) → list_all test punctuators ≡ true → (t : List ℕ) → is_punctuator t ≡ true →
    test t ≡ true
unfolding is_punctuator
punctuator-is test all t h = one-of test t punctuators all h

-- character constants and string literals

-- the first bytes of the prefixes
abbrev pub is_prefix_byte : ℕ → Bool
is_prefix_byte b = b == 76 || b == 85 || b == 117

abbrev pub begins_prefix : List ℕ → Bool
begins_prefix [] = true
begins_prefix (b ∷ bs) = is_prefix_byte b

-- a prefix, or none, and then a quoted text
pub record IsLiteral (t : List ℕ) : Type 0 where
  pub prefix : List ℕ
  pub quote : ℕ
  pub word : list_all is_word_byte prefix ≡ true
  pub begins : begins_prefix prefix ≡ true
  pub quotes : is_quote quote ≡ true
  pub has : has_prefix prefix (is_quoted quote) t ≡ true

has_prefix-weaker : (f g : List ℕ → Bool) → ((t : List ℕ) → f t ≡ true → g t ≡ true) → (prefix t : List ℕ) →
    has_prefix prefix f t ≡ true → has_prefix prefix g t ≡ true
has_prefix-weaker f g weaker [] t h = weaker t h
has_prefix-weaker f g weaker (p ∷ ps) [] h = h
has_prefix-weaker f g weaker (p ∷ ps) (b ∷ bs) h = grind (arith, nat_tests, has_prefix-weaker f g weaker ps bs)

literal : (quote : ℕ) (test : List ℕ → Bool) → is_quote quote ≡ true →
    ((t : List ℕ) → test t ≡ true → is_quoted quote t ≡ true) →
    (prefixes : List (List ℕ)) → list_all (λ p. list_all is_word_byte p && begins_prefix p) prefixes ≡ true → (t : List ℕ) →
    list_any (λ p. has_prefix p test t) prefixes ≡ true → IsLiteral t
literal quote test is quoted [] all t any = absurd (false≢true any)
literal quote test is quoted (p ∷ ps) all t any = search (rules, or_cases, and_parts, has_prefix-weaker, literal quote test is quoted ps)

pub literal-from_character : (t : List ℕ) → is_character_constant t ≡ true → IsLiteral t
literal-from_character t h = literal apostrophe is_character refl (λ t h. (and_parts (is_quoted apostrophe t) _ h).0)
    ([] ∷ codes "u8" ∷ codes "u" ∷ codes "U" ∷ codes "L" ∷ []) refl t h

pub literal-from_string : (t : List ℕ) → is_string_literal t ≡ true → IsLiteral t
literal-from_string t h =
    literal double_quote is_string refl (λ t h. h) ([] ∷ codes "u8" ∷ codes "u" ∷ codes "U" ∷ codes "L" ∷ []) refl t h

-- the last byte is the closing quote

ends-last : (quote b : ℕ) (a : List ℕ) → ends_quoted quote (b ∷ a) ≡ true → last_byte b a ≡ quote
ends-last quote b [] h = eqb-true b quote h
ends-last quote b (c ∷ []) h = grind (arith, nat_tests)
ends-last quote b (c ∷ d ∷ a) h = grind (arith, nat_tests, ends-last quote d a, ends-last quote c (d ∷ a))

pub literal-last : (x : ℕ) (a : List ℕ) → IsLiteral (x ∷ a) → is_quote (last_byte x a) ≡ true
literal-last x a l = go l.prefix x a l.has
  where
    go : (prefix : List ℕ) (x : ℕ) (a : List ℕ) → has_prefix prefix (is_quoted l.quote) (x ∷ a) ≡ true → is_quote (last_byte x a) ≡ true
    go [] x [] has = grind (arith, nat_tests)
    go [] x (b ∷ a) has = search (rules, ends-last, and_parts, l.quotes)
    go (p ∷ []) x [] has = grind (arith, nat_tests)
    go (p ∷ q ∷ ps) x [] has = grind (arith, nat_tests)
    go (p ∷ ps) x (b ∷ a) has = search (rules, and_parts, go ps b a)

-- a quoted text ends at its first closing quote
pub ends-once : (quote : ℕ) (a w : List ℕ) (c : ℕ) (q : List ℕ) → (quote == backslash) ≡ false → ends_quoted quote a ≡ true →
    ends_quoted quote (a ++ (w ++ c ∷ q)) ≡ false
ends-once quote [] w c q other h = absurd (false≢true h)
ends-once quote (b ∷ []) [] c q other h = grind (arith, nat_tests)
ends-once quote (b ∷ []) (d ∷ w) c q other h = grind (arith, nat_tests)
ends-once quote (b ∷ d ∷ a) w c q other h = grind (arith, nat_tests, ends-once quote a w c q other, ends-once quote (d ∷ a) w c q other)
