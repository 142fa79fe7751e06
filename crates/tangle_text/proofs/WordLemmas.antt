-- Words, which end in their line. Numbers go on over separators.
use Rattle.std.proofs.Common.{rules}
use Rattle.std.proofs.lemmas.Bool.Decides.{nat_tests}
use Rattle.std.proofs.Common.{◌≡◌, ℕ, ◌+◌, ◌<◌, ◌≤◌, Bool, true, false, List, [], ◌∷◌, ◌++◌, ◌||◌, not}
use Rattle.std.proofs.Common.{Some, IsSome, cond}
use Rattle.std.specs.List.{prefix_len}
use Rattle.std.proofs.lemmas.List.{at_drop_more}
use Rattle.std.proofs.Common.{length, drop, get_or, refl, ◌∙◌, arith}
use Rattle.tangle_lines.specs.Reading.{SourceLine}
use Rattle.tangle_text.specs.declared.regions.Region.TheVariants as region
use Rattle.tangle_text.specs.declared.regions.Unit.{Unit as Unit-of}
use Rattle.tangle_text.specs.declared.reader.Reader.TheInside.{Inside}
use Rattle.tangle_text.specs.Bytes.{is_word_byte}
use Rattle.tangle_text.specs.Text.{Cell, line_text, text_from, byte_at}
use Rattle.tangle_text.specs.Runs.{is_before_quote, is_number_byte, passing, word_size}
use Rattle.tangle_text.specs.Regions.{is_separator, unit_by, more_by}
use Rattle.tangle_text.specs.Words.{word_more}
use Rattle.tangle_text.specs.Ahead.{rest_of}
use Rattle.tangle_text.proofs.AheadLemmas.{at-byte}
use Rattle.tangle_text.proofs.TakenLemmas.{Takes, takes}
use Rattle.tangle_text.proofs.RunLemmas.{counted-run, word-run}
use Rattle.tangle_text.proofs.UnitLemmas.{count_by, counted, count-is}

-- by whether a word byte or a separator is first; after a separator, `f 1` is the number with the word byte there
counted-by : (word separates : Bool) (f : ℕ → ℕ) (n : ℕ) → f 0 ≡ n → (separates ≡ true → f 1 ≡ n) →
    let u : Unit-of = unit_by (not (word || separates)) separates in
    count_by u (f (more_by u)) ≡ cond (word || separates) (1 + n) 0
counted-by word separates f n one two = grind arith

counted-number : (line column : ℕ) (bs : List ℕ) (rest : List Cell)
    → counted region.Number 0 (line_text line column bs ++ rest) ≡ passing is_number_byte bs
counted-number line column [] rest = refl
counted-number line column (b ∷ []) rest = grind (arith, nat_tests)
counted-number line column (b ∷ c ∷ bs) rest =
    counted-by (is_word_byte b) (is_separator (Some b) (Some c))
    (λ k. counted region.Number k (line_text line (column + 1) (c ∷ bs) ++ rest)) _
    (counted-number line (column + 1) (c ∷ bs) rest)
    (λ s. grind (arith, nat_tests, counted-number line (column + 1 + 1) bs rest))

word_more-line : (line column b : ℕ) (bs : List ℕ) (rest : List Cell)
    → word_more (line_text line column (b ∷ bs) ++ rest) ≡ word_size b bs
word_more-line line column b bs rest =
    search (rules, counted-run, word-run, count-is, counted-number)

-- before no quoted text, a number is its word bytes
number-word : (bs : List ℕ) → is_before_quote bs ≡ false → passing is_number_byte bs ≡ prefix_len is_word_byte bs
number-word [] h = refl
number-word (b ∷ bs) h = grind (arith, nat_tests, number-word bs)

-- a word before no quoted text is its word bytes
pub word_more-plain : (line column b : ℕ) (bs : List ℕ) (rest : List Cell) → is_before_quote bs ≡ false
    → word_more (line_text line column (b ∷ bs) ++ rest) ≡ prefix_len is_word_byte bs
word_more-plain line column b bs rest h = grind (arith, word_more-line line column b bs rest, number-word bs h)

-- the word at a column of a line
word_more-rest : (lines : List SourceLine) (bytes : List ℕ) (line column : ℕ) → column < length bytes
    → word_more (rest_of lines bytes line column false) ≡ word_size (get_or bytes column 0) (drop (column + 1) bytes)
word_more-rest lines bytes line column inside =
    let rest : List Cell = text_from (line + 1) (drop (line + 1) lines) in
    at_drop_more (λ l. word_more (line_text line column l ++ rest)) bytes column 0 inside
    ∙ word_more-line line column (get_or bytes column 0) (drop (column + 1) bytes) rest

-- a reader goes over the word at its position
pub takes-word : (r : Inside) (text : List Cell) (end : ℕ)
    → rest_of r.source.now.lines r.bytes.now r.line r.column r.is_done ≡ text → IsSome (byte_at 0 text)
    → end ≡ r.column + 1 + word_size (get_or r.bytes.now r.column 0) (drop (r.column + 1) r.bytes.now)
    → end ≤ length r.bytes.now → Takes r text (1 + word_more text) end
takes-word r text end is some ends fits =
    let at = at-byte r text is some in
    let more : word_more text ≡ word_size (get_or r.bytes.now r.column 0) (drop (r.column + 1) r.bytes.now)
    = rw (← is, at.done) (word_more-rest r.source.now.lines r.bytes.now r.line r.column at.inside) in
    takes r text (1 + word_more text) end is some (omega (arith, more, ends)) fits
