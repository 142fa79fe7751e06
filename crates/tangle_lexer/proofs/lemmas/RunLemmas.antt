-- A run is read: its token stands for those of the words, signs, quoted texts and spaces in it.
use Rattle.std.proofs.Common.{rules}
use Rattle.std.proofs.Common.{if◌then◌else◌, nat_le, ◌==◌}
use Rattle.std.proofs.lemmas.List.{get_or-drop}
use Rattle.std.proofs.lemmas.Bool.Decides.{nat_tests}
use Rattle.tangle_text.specs.Bytes.{number_sign, backslash, holds}
use Rattle.std.proofs.Common.{◌≡◌, ◌<◌, ℕ, zero, suc, ◌+◌, ◌-◌, Bool, true, false, ◌&&◌, List, [], ◌∷◌, ◌++◌}
use Rattle.std.proofs.Common.{length}
use Rattle.std.proofs.Common.{take, drop, map, get_or, slice_get, refl, ap}
use Rattle.std.proofs.Common.{sym, ◌∙◌, subst, arith, append_assoc, append-nil, length-drop}
use Rattle.std.proofs.lemmas.Option.{slice_get-get_or, slice_get_cases}
use Rattle.std.proofs.lemmas.Bool.{and_parts}
use Rattle.std.proofs.lemmas.List.Elements.{All-push}
use Rattle.tangle_lines.specs.Reading.{SourceLine}
use Rattle.tangle_text.specs.declared.spans.Span.{Span}
use Rattle.tangle_text.specs.Text.{Cell, text_from, byte_at, span_at, texts_of}
use Rattle.tangle_text.specs.Text.{IsRestOf}
use Rattle.tangle_text.specs.Runs.{holds_plain, run_count, run_size}
use Rattle.tangle_text.specs.Runs.{parts_of, run_parts, are_apart}
use Rattle.tangle_text.proofs.RunPartLemmas.{run_count-line, run_size-fits, get_drop}
use Rattle.tangle_lexer.proofs.laws.Points.{Point, point_at, IsTextAt, text-is, text-somewhere, line-at}
use Rattle.tangle_lexer.specs.declared.modes.LexerState.{LexerState}
use Rattle.tangle_lexer.specs.declared.simple.SimpleLexeme.{SimpleLexeme}
use Rattle.tangle_lexer.specs.declared.tokens.Token.{Token}
use Rattle.tangle_lexer.specs.declared.tokens.Token.TheVariants as token
use Rattle.tangle_lexer.specs.Lexemes.{elsewhere}
use Rattle.tangle_lexer.specs.Reads.{ReadsOn}
use Rattle.tangle_lexer.specs.Runs.{part_token, IsRunOf, IsRunIn}
use Rattle.tangle_lexer.specs.Simple.{IsSimple, simple_kind, is_c_text, is_word_or_sign, begins_run, is_apart}
use Rattle.tangle_lexer.specs.Steps.{c_lexeme, lexeme, tokens_from}
use Rattle.tangle_lexer.specs.Steps.{occurrences_from}
use Rattle.tangle_lexer.proofs.lemmas.BlockLemmas.{unfolded-append, rest-drop}
use Rattle.tangle_lexer.proofs.lemmas.RunTokens.{run-goes}
use Rattle.tangle_lexer.proofs.lemmas.SimpleLemmas.{lexeme-simple}
use Rattle.tangle_lexer.proofs.lemmas.StepLemmas.{tokens_from-step, occurrences_from-step}

-- the run at the front

pub record IsRunRead (lines : List SourceLine) (s after : LexerState) (text : List Cell) : Type 0 where
  pub tokens : tokens_from s text
      ≡ map part_token (run_parts (texts_of lines) (span_at (run_count text) text))
      ++ tokens_from after (drop (run_count text) text)
  pub occurrences : occurrences_from s text ≡ occurrences_from after (drop (run_count text) text)
  pub run : IsRunOf (texts_of lines) (span_at (run_count text) text)

parts-are : (texts : List (List ℕ)) (line column n : ℕ)
    → run_parts texts (record { line = line; start = column; end = column + n })
    ≡ parts_of line column 0 (take n (drop column (get_or texts line [])))
unfolding run_parts
parts-are texts line column n = grind (arith, nat_tests)

-- parts that begin with a plain byte begin with a word or a sign
plain-apart : (space word : Bool) (line column n : ℕ) (bs : List ℕ) → holds_plain (slice_get bs 0) ≡ true → 0 < n
    → are_apart space word (parts_of line column 0 (take n bs)) ≡ true
    → are_apart true true (parts_of line column 0 (take n bs)) ≡ true
plain-apart space word line column n [] plain some h = cc
plain-apart space word line column zero (b ∷ bs) plain some h = absurd (omega arith)
plain-apart space word line column (suc n) (b ∷ bs) plain some h = grind (arith, nat_tests)

-- the last byte of a run
run-end : (bytes : List ℕ) (column n : ℕ) → 0 < n → (get_or (0 ∷ drop column bytes) n 0 == backslash) ≡ false
    → ((if nat_le (column + n) column then 0 else get_or bytes (column + n - 1) 0) == backslash) ≡ false
run-end bytes column zero some h = absurd (omega arith)
run-end bytes column (suc n) some h = grind (arith, get_or-drop)

line-run : (lines : List SourceLine) (s : LexerState) → is_c_text s.mode ≡ true
    → (at : Point) (text : List Cell) → IsTextAt (texts_of lines) at text → holds_plain (byte_at 0 text) ≡ true
    → holds number_sign (byte_at 0 text) ≡ false → 0 < run_count text
    → IsRunRead lines (elsewhere s) (elsewhere s) text
line-run lines s c_text at [] is_text plain sign some = cc
line-run lines s c_text at (c ∷ cs) is_text plain sign some =
    let texts = texts_of lines in
    let line : ℕ = at.line in
    let column : ℕ = at.column in
    let of_line : List ℕ = get_or texts line [] in
    let bytes = drop column of_line in
    let (rest, is) = line-at texts at (c ∷ cs) is_text is_text.0.real in
    let found : c.byte ≡ slice_get of_line column = is_text.0.byte in
    let inside : column < length of_line = grind (arith, nat_tests, slice_get_cases) in
    let byte : c.byte ≡ slice_get bytes 0 = found ∙ sym (get_drop of_line column) in
    let n : ℕ = run_size 0 bytes in
    let count : run_count (c ∷ cs) ≡ n = ap run_count is ∙ run_count-line line column bytes rest in
    let parts = parts-are texts line column n in
    let goes = run-goes s c_text (λ b. grind arith) line rest column 0 n bytes (omega arith) refl in
    let run : IsRunOf texts (record { line = line; start = column; end = column + n }) = record {
      span = record {
        line = is_text.0.real;
        start = omega arith;
        end = omega (arith, run_size-fits 0 bytes, length-drop column of_line, inside);
      };
      apart = rw parts (plain-apart _ _ line column n bytes (rw byte at plain) (omega arith) goes.apart);
      begins = rw (found ∙ slice_get-get_or of_line column 0 inside) at sign;
      ends = run-end of_line column n (omega arith) (goes.ends 0 (omega arith));
    } in
    search rules

-- the first lexeme of a run is read as if an item were before it on its line

kind-apart : (p : SimpleLexeme) (s : LexerState) (text : List Cell)
    → is_word_or_sign p ≡ true → is_apart s.line.include (byte_at 0 text) ≡ true
    → c_lexeme (simple_kind p) s text ≡ c_lexeme (simple_kind p) (elsewhere s) text
kind-apart x s text h apart = grind arith

lexeme-apart : (s : LexerState) (text : List Cell) (p : SimpleLexeme)
    → IsSimple text p → is_c_text s.mode ≡ true → is_word_or_sign p ≡ true
    → is_apart s.line.include (byte_at 0 text) ≡ true → lexeme s text ≡ lexeme (elsewhere s) text
lexeme-apart s text p here m h apart = grind (arith, nat_tests, kind-apart p s text h apart, lexeme-simple)

-- a run that may begin at a simple lexeme, and has bytes, is read from there on
pub run-read : (lines : List SourceLine) (tokens : List Token) (s : LexerState) (text : List Cell) (p : SimpleLexeme)
    → IsSimple text p → is_c_text s.mode ≡ true
    → begins_run tokens s.mode s.line.include p (byte_at 0 text) ≡ true → 0 < run_count text
    → IsRestOf lines text → IsRunRead lines s (elsewhere s) text
run-read lines tokens s text p here c_text begins some_bytes ours =
    let all = and_parts (is_word_or_sign p && is_apart s.line.include (byte_at 0 text)) _ begins in
    let both = and_parts (is_word_or_sign p) (is_apart s.line.include (byte_at 0 text)) all.0 in
    let plain : holds_plain (byte_at 0 text) ≡ true = here.plain both.0 in
    let place = text-somewhere (texts_of lines) ours.0 (point_at 0 0) (text_from 0 lines) (text-is lines) in
    let run = line-run lines s c_text place.0 text (rw ours.1 place.1) plain (grind arith) some_bytes in
    grind (arith, nat_tests, lexeme-apart s text p here, tokens_from-step, occurrences_from-step)

-- the token of a run is added
pub run-reads-on : (lines : List SourceLine) (old new : List Token)
    (s : LexerState) (text rest : List Cell) (span : Span)
    → new ≡ old ++ token.Run span ∷ [] → span ≡ span_at (run_count text) text → rest ≡ drop (run_count text) text
    → IsRestOf lines text → IsRunRead lines s (elsewhere s) text → ReadsOn lines old new s (elsewhere s) text rest
run-reads-on lines old new s text rest span added is ahead ours run =
    let texts = texts_of lines in
    let run_is : IsRunOf texts span = subst (IsRunOf texts) (sym is) run.run in
    grind (
      arith,
      nat_tests,
      append_assoc,
      unfolded-append texts old,
      append-nil (map part_token (run_parts texts span)),
      run.tokens,
      run.occurrences,
      All-push (IsRunIn texts) old (token.Run span),
      run_is,
      rest-drop lines (run_count text) text ours,
    )
