-- The ends of names, and the equals signs after them.
use Rattle.tangle_lexer.proofs.lemmas.RegionSteps.{unit_steps}
use Rattle.tangle_lexer.proofs.lemmas.NameWords.{form-white, form-other, form-none, form-end}
use Rattle.std.proofs.lemmas.Bool.Decides.{nat_tests}
use Rattle.std.proofs.Common.{◌≡◌, ℕ, ◌+◌, Bool, true, false, List, [], ◌∷◌, drop, Option, Some, None, refl, ap, sym, ◌∙◌, arith}
use Rattle.std.proofs.Common.{drop-drop, if◌then◌else◌}
use Rattle.tangle_lexer.specs.declared.names.Equals.{Equals}
use Rattle.tangle_lexer.specs.declared.names.Equals.TheVariants as equals
use Rattle.tangle_lexer.specs.Reads.{PassesEquals}
use Rattle.tangle_text.specs.Bytes.{holds, plus_sign, equals_sign}
use Rattle.tangle_text.specs.Text.{Cell, byte_at, front_line}
use Rattle.tangle_lexer.specs.White.{is_white_alone, next_but_name, white_count, white_end}
use Rattle.tangle_lexer.specs.Comments.{two_if, has_end_code}
use Rattle.tangle_lexer.specs.Names.{name_end, is_ended, after_name, name_count, count_before_equals, equals_by}
use Rattle.tangle_lexer.specs.Names.{equals_in, equals_last, count_through, definition_count, name_more}
use Rattle.tangle_lexer.proofs.lemmas.RegionSteps.{after-two}
use Rattle.tangle_text.proofs.AheadLemmas.{byte_at-drop}

-- the equals sign, by the text after the cells before it
pub equals-further : (text : List Cell)
    → equals_by (byte_at 0 (drop (count_before_equals text) text)) (byte_at 1 (drop (count_before_equals text) text))
    ≡ equals_in text
equals-further text =
    let n : ℕ = count_before_equals text in grind (arith, nat_tests, byte_at-drop, drop-drop 1 n text)

pub equals-here : (text mid : List Cell) (e : Equals) → mid ≡ drop (count_before_equals text) text
    → e ≡ equals_by (byte_at 0 mid) (byte_at 1 mid) → equals_in text ≡ e
equals-here text mid e is here =
    sym (equals-further text) ∙ (ap (λ t. equals_by (byte_at 0 t) (byte_at 1 t)) (sym is) ∙ sym here)

pub after-is : (text mid rest : List Cell)
    → mid ≡ name_end text → rest ≡ drop (two_if (has_end_code mid)) mid → rest ≡ after_name text
after-is text mid rest h go =
    grind (arith, after-two (name_count text) text, drop-drop (two_if (is_ended text)) (1 + name_count text) (drop 1 text))

-- the text after white space, + and white space
pub plus-further : (text : List Cell) → holds plus_sign (byte_at 0 (white_end text)) ≡ true →
    white_end (drop 1 (white_end text)) ≡ drop (count_before_equals text) text
plus-further text h =
    let first = white_count 0 text in
    let plus : holds plus_sign (byte_at first text) ≡ true = ap (holds plus_sign) (byte_at-drop first text) ∙ h in
    ap white_end (drop-drop 1 first text)
    ∙ (drop-drop (white_count 0 (drop (first + 1) text)) (first + 1) text ∙ rw plus refl)

pub no_plus-further : (text : List Cell) → holds plus_sign (byte_at 0 (white_end text)) ≡ false →
    white_end text ≡ drop (count_before_equals text) text
no_plus-further text h = grind (arith, nat_tests, byte_at-drop)

-- an equals sign was passed from its last cell on
pub passes-on : (ended : Bool) (e : Equals) (n last line : ℕ) (text mid rest : List Cell)
    → ended ≡ true → (e ≡ equals.Absent → ⊥) → mid ≡ drop n text → rest ≡ drop 1 mid → line ≡ front_line last mid
    → PassesEquals (if ended then e else equals.Absent) n last text rest (Some line)
passes-on ended e n last line text mid rest h some there go is = grind (arith, drop-drop 1 n text)

-- a name is a definition if `pass_equals` found an equals sign after it

passed : (ended : Bool) (e : Equals) (n last line : ℕ) (text rest : List Cell)
    → PassesEquals (if ended then e else equals.Absent) n last text rest (Some line)
    → ((if ended then count_through e n else None) ≡ Some (n + 1))
    × (rest ≡ drop (n + 1) text) × (line ≡ front_line last (drop n text))
passed ended e n last line text rest takes = grind arith

not-passed : (ended : Bool) (e : Equals) (n last : ℕ) (text rest : List Cell)
    → PassesEquals (if ended then e else equals.Absent) n last text rest None
    → ((if ended then count_through e n else None) ≡ None) × (rest ≡ text)
not-passed ended e n last text rest takes = grind arith

-- what `pass_equals` did after a name, and what it found
abbrev pub PassesAfter : ℕ → List Cell → List Cell → Option ℕ → Type 0
PassesAfter last text rest found =
    PassesEquals (if is_ended text then equals_in (after_name text) else equals.Absent)
    (equals_last (after_name text)) last (after_name text) rest found

pub definition-found : (last line : ℕ) (text rest : List Cell) → PassesAfter last text rest (Some line)
    → (n : ℕ) × (definition_count text ≡ Some n) × (rest ≡ drop (name_more text + n) (drop 1 text))
    × (line ≡ front_line last (drop (name_more text + n) text))
definition-found last line text rest takes =
    let n : ℕ = equals_last (after_name text) in
    let m : ℕ = name_more text in
    let h = passed (is_ended text) _ n last line (after_name text) rest takes in
    let at : drop n (after_name text) ≡ drop (m + (n + 1)) text =
    grind (arith, drop-drop n m (drop 1 text), drop-drop (m + n) 1 text) in
    (n + 1, h.0, h.1 ∙ drop-drop (n + 1) m (drop 1 text), h.2 ∙ ap (front_line last) at)

pub definition-not-found : (last : ℕ) (text rest : List Cell) → PassesAfter last text rest None
    → (definition_count text ≡ None) × (rest ≡ drop (name_more text) (drop 1 text))
definition-not-found last text rest takes = not-passed (is_ended text) _ _ last (after_name text) rest takes

-- no equals sign follows where no white space, no + and no equals sign is at the front
no_white : (text : List Cell) → is_white_alone (next_but_name text).tokens ≡ false → white_count 0 text ≡ 0
no_white [] dark = refl
no_white (c ∷ cs) dark = rw dark refl

pub equals-absent : (text : List Cell) → is_white_alone (next_but_name text).tokens ≡ false
    → holds plus_sign (byte_at 0 text) ≡ false → holds equals_sign (byte_at 0 text) ≡ false
    → equals_in text ≡ equals.Absent
equals-absent text dark plus sign = grind (arith, nat_tests, no_white)

-- what the functions that read names take from here
pub ruleset name_steps = (unit_steps, form-white, form-other, form-none, form-end, after-is, plus-further, no_plus-further, definition-found)
