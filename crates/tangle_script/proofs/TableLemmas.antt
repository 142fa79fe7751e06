-- The request of a command is that of its row of the table.
use Rattle.std.proofs.Common.{rules}
use Rattle.std.proofs.Common.{◌≡◌, ◌∙◌, ◌⊎◌, inl, inr, ℕ, ◌<◌, ◌≤◌, ◌+◌, ◌-◌, ◌*◌, ◌==◌, true}
use Rattle.std.proofs.Common.{length, List, [], ◌∷◌, ◌++◌, Option, Some}
use Rattle.std.proofs.Common.{None, ap, subst, sym, refl, arith, take-append-drop}
use Rattle.std.specs.Prelude.{◌&&◌, codes, nat_lt}
use Rattle.std.specs.List.{list_all}
use Rattle.std.proofs.lemmas.Bool.{and_parts, cond_both, lt-ltb}
use Rattle.std.proofs.lemmas.Bool.Decides.{nat_tests}
use borrow.Author.Tests.{ltb-true}
use Rattle.tangle_script.specs.Requests.{Command, Request, after_word}
use Rattle.tangle_script.specs.Requests.{number_and_file, numbered, request_of, request_with, row}
use Rattle.tangle_script.specs.Requests.Request.{Insert, Replace, Remove}
use Rattle.tangle_script.specs.Requests.Request.{BadCommand}
use Rattle.tangle_script.specs.Table.{CommandAsks, AsksForItsRow, IsNumbered, IsRow, is_digit}
use Rattle.tangle_script.specs.Table.{value_after}

-- digits, one space and a file are read as the number and the file

read_number : (count n : ℕ) (digits file : List ℕ) → list_all is_digit digits ≡ true
    → count + length digits ≤ 9 → 0 < count + length digits
    → number_and_file count n (digits ++ 32 ∷ file) ≡ Some (value_after n digits, file)
read_number count n [] file all few some =
    search rules
read_number count n (d ∷ ds) file all few some =
    let digits = and_parts (is_digit d) (list_all is_digit ds) all in
    rw (digits.0, lt-ltb count 9 (omega arith))
    (read_number (count + 1) (n * 10 + (d - 48)) ds file digits.1 (omega arith) (omega arith))

-- what is read as a number and a file is digits, one space and the file

module _ (P : Option (ℕ × List ℕ) → Type 0) where
  number_cases : (count n : ℕ) (rest : List ℕ)
      → ((digits file : List ℕ) → list_all is_digit digits ≡ true → length digits ≤ 9 - count → 0 < count + length digits
      → rest ≡ digits ++ 32 ∷ file → P (Some (value_after n digits, file)))
      → P None → P (number_and_file count n rest)
  number_cases count n [] some none = none
  number_cases count n (b ∷ bs) some none =
      cond_both (is_digit b && nat_lt count 9) _ _ P
      (λ is.
      let digit = and_parts (is_digit b) (nat_lt count 9) is in
      let less = ltb-true count 9 digit.1 in
      number_cases (count + 1) (n * 10 + (b - 48)) bs
      (λ ds file all few many whole. some (b ∷ ds) file (ap (λ t. t && list_all is_digit ds) digit.0 ∙ all)
      (omega arith) (omega arith) (ap (λ l. b ∷ l) whole)) none)
      (λ _. cond_both ((b == 32) && nat_lt 0 count) (Some (n, bs)) None P
      (λ is. some [] bs refl (omega arith) (grind (arith, nat_tests, is)) (grind (arith, nat_tests, is))) (λ _. none))

-- a row is read as its request

module _ (c : Command) where
  asked_at : (line : List ℕ) → c.line ≡ line → (text : Option (List ℕ)) → c.text ≡ text
      → request_of c ≡ request_with line text
  unfolding request_of
  asked_at line e text f = ap (λ l. request_with l c.text) e ∙ ap (request_with line) f

  numbered_at : (request : ℕ → List ℕ → Request) (word : List ℕ) (at : ℕ) (file line : List ℕ)
      (h : IsNumbered word at file line)
      → numbered request (number_and_file 0 0 (h.digits ++ 32 ∷ file)) ≡ request at file
  numbered_at request word at file line h = search (rules, read_number)

  row_asked : (r : Request) → IsRow c r → request_of c ≡ r
  row_asked (Insert at file text) h = cc (asked_at _ h.0.whole _ h.1 ∙ numbered_at (λ at file. Insert at file text) _ at file _ h.0)
  row_asked (Replace at file text) h = asked_at _ h.0.whole _ h.1
      ∙ numbered_at (λ at file. Replace at file text) _ at file _ h.0
  row_asked (Remove at file) h = asked_at _ h.0.whole _ h.1 ∙ numbered_at Remove _ at file _ h.0
  row_asked BadCommand h = absurd h
  row_asked request h = asked_at _ h.0 _ h.1

-- a command that is not bad is in a row

abbrev IsRowOrBad : Command → Request → Type 0
IsRowOrBad c r = IsRow c r ⊎ (r ≡ BadCommand)

module _ (line : List ℕ) (text : Option (List ℕ)) where
  abbrev Asks : Request → Type 0
  Asks r = IsRowOrBad (record { line = line; text = text }) r

  at_row : (word : List ℕ) (request : List ℕ → Request) (other : Request)
      → ((rest : List ℕ) → line ≡ word ++ rest → Asks (request rest)) → Asks other
      → Asks (row (after_word word line) request other)
  at_row word request other h k = search (rules, take-append-drop)

  at_numbered : (word : List ℕ) (request : ℕ → List ℕ → Request) (other : Request)
      → ((n : ℕ) (file : List ℕ) → IsNumbered word n file line → Asks (request n file)) → Asks other
      → Asks (row (after_word word line) (λ rest. numbered request (number_and_file 0 0 rest)) other)
  at_numbered word request other h k = at_row word _ other
      (λ rest is. number_cases (λ o. Asks (numbered request o)) 0 0 rest
      (λ digits file all few some whole. h (value_after 0 digits) file (record {
        digits = digits;
        is_number = record { some = omega arith; few = few; decimal = all };
        value = refl;
        whole = is ∙ ap (λ l. word ++ l) whole;
      })) (inr refl)) k

row_with : (line : List ℕ) (text : Option (List ℕ)) → Asks line text (request_with line text)
row_with line None =
    at_numbered line None (codes "remove ") Remove _ (λ n file h. inl (h, refl))
    (at_row line None (codes "create ") _ _ (λ rest is. inl (is, refl))
    (at_row line None (codes "discard ") _ _ (λ rest is. inl (is, refl))
    (search rules)))
row_with line (Some text) =
    at_numbered line (Some text) (codes "insert ") (λ at file. Insert at file text) _ (λ n file h. inl (h, refl))
    (at_numbered line (Some text) (codes "replace ") (λ at file. Replace at file text) _ (λ n file h. inl (h, refl))
    (inr refl))

module _ (c : Command) where
  row_or_bad : IsRowOrBad c (request_of c)
  unfolding request_of
  row_or_bad = row_with c.line c.text

  -- a command that is in a row is not bad
  row_asks : (r : Request) → IsRow c r → CommandAsks c r
  row_asks BadCommand h = absurd h
  row_asks r h = h

  asks_once : (r : Request) → CommandAsks c r → r ≡ request_of c
  asks_once BadCommand none = search (rules, row_or_bad)
  asks_once r h = sym (row_asked c r h)

  pub asks_for_its_row : AsksForItsRow c
  asks_for_its_row = (
    elim row_or_bad [
      | inl h ↦ row_asks (request_of c) h
      | inr bad ↦ subst (CommandAsks c) (sym bad)
          (λ r h. subst (IsRow c) (sym (row_asked c r h) ∙ bad) h)
    ],
    asks_once,
  )
