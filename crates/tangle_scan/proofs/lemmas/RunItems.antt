-- The first and the last part of a run.
use Rattle.std.proofs.Common.{rules}
use Rattle.std.proofs.lemmas.Bool.Decides.{nat_tests}
use Rattle.std.proofs.Common.{◌≡◌, ◌≤◌, ℕ, ◌+◌, ◌-◌, zero, suc, Bool, true, false, ◌==◌, ◌&&◌, not}
use Rattle.std.proofs.Common.{List, [], ◌∷◌, ◌++◌, length, drop, get_or, refl, ap, sym, arith, length-drop}
use Rattle.std.specs.List.{prefix_len}
use Rattle.std.proofs.lemmas.List.{get_or-drop, get_or_append_left, length-take-le, take-append-drop}
use Rattle.tangle_files.specs.Bytes.{space}
use Rattle.tangle_text.specs.Bytes.{is_word_byte, backslash, slash, left_parenthesis}
use Rattle.tangle_text.specs.declared.runs.RunPart.{RunPart}
use Rattle.tangle_text.specs.declared.spans.Span.{Span}
use Rattle.tangle_text.specs.Runs.{part_more, part_at, parts_of, run_parts, are_apart}
use Rattle.tangle_text.specs.Runs.{quote_size}
use Rattle.tangle_text.specs.Text.{span_text}
use Rattle.tangle_text.proofs.PartLemmas.{part-fits}
use Rattle.tangle_lexer.specs.declared.tokens.Token.{Token}
use Rattle.tangle_lexer.specs.declared.tokens.Token.TheVariants as token
use Rattle.tangle_lexer.specs.Runs.{is_run, part_token, unfolded_token, IsRunOf}
use Rattle.tangle_lexer.specs.SpanBytes.{first_byte, last_byte, ends_in}
use Rattle.tangle_scan.specs.Rules.{may_merge, is_constant, may_follow_name}
use Rattle.tangle_scan.specs.Texts.{part_item}
use Rattle.tangle_scan.specs.Passes.{is_merging_byte, is_number_sign, last_of, would_merge_in_run}
use Rattle.tangle_scan.proofs.lemmas.RunTags.{part-by, front_byte, next_bytes}

-- a token other than a run stands for itself
pub unfolded-one : (texts : List (List ℕ)) (e : Token) → ((s : Span) → e ≡ token.Run s → ⊥)
    → (unfolded_token texts e ≡ e ∷ []) × (is_run e ≡ false)
unfolded-one texts x other = grind arith

-- the last byte of a part

prefix-last : (test : ℕ → Bool) (b : ℕ) (bs : List ℕ) → test b ≡ true
    → test (get_or (b ∷ bs) (prefix_len test bs) 0) ≡ true
prefix-last test b [] h = h
prefix-last test b (c ∷ bs) h = grind (arith, nat_tests, prefix-last test c bs)

quote-last : (close : ℕ) (escaped : Bool) (bs : List ℕ) → get_or (close ∷ bs) (quote_size close escaped bs) 0 ≡ close
quote-last close escaped [] = refl
quote-last close escaped (b ∷ bs) = search (rules, nat_tests, quote-last close (b == backslash && not escaped) bs)

abbrev pub is_end : Token → Bool
is_end (token.LineEnd line) = true
is_end _ = false

-- a token with which a run ends, whose last byte is `b`
pub record EndsRun (texts : List (List ℕ)) (e : Token) (b : ℕ) : Type 0 where
  pub solid : is_end e ≡ false
  pub plain : is_constant e ≡ false
  pub merges : may_merge texts e ≡ is_merging_byte b
  pub joins : ends_in backslash texts e ≡ (b == backslash)
  pub opens : ends_in slash texts e ≡ (b == slash)

white-ends : (texts : List (List ℕ)) → EndsRun texts token.White space
white-ends texts = record { solid = refl; plain = refl; merges = refl; joins = refl; opens = refl }

part-ends : (texts : List (List ℕ)) (line column b : ℕ) (bs : List ℕ) → get_or (get_or texts line []) column 0 ≡ b
    → EndsRun texts (part_token (part_at line column (1 + part_more b bs) b)) (get_or (b ∷ bs) (part_more b bs) 0)
part-ends texts line column b bs is =
    part-by (λ p. EndsRun texts (part_token p) (get_or (b ∷ bs) (part_more b bs) 0)) line column _ b
    (λ blank. rw blank (white-ends texts))
    (λ word. let last = prefix-last is_word_byte b bs word in rw word (grind (arith, nat_tests)))
    (λ word quote. rw (word, quote, quote-last b false bs) (grind (arith, nat_tests)))
    (λ word quote. rw (word, quote) (grind (arith, nat_tests)))

parts-end : (texts : List (List ℕ)) (line column k last : ℕ) (bs rest : List ℕ) (e : Token)
    → drop column (get_or texts line []) ≡ bs ++ rest → k ≤ length bs → EndsRun texts e (get_or (last ∷ bs) k 0)
    → EndsRun texts (last_of e (parts_of line column k bs)) (get_or (last ∷ bs) (length bs) 0)
parts-end texts line column zero last [] rest e is low h = h
parts-end texts line column (suc k) last [] rest e is low h = absurd (omega arith)
parts-end texts line column (suc k) last (b ∷ bs) rest e is low h =
    parts-end texts line (column + 1) k b bs rest e (next_bytes texts line column b bs rest is) (omega arith) h
parts-end texts line column zero last (b ∷ bs) rest e is low h =
    parts-end texts line (column + 1) (part_more b bs) b bs rest _ (next_bytes texts line column b bs rest is)
    (part-fits b bs)
    (part-ends texts line column b bs (front_byte texts line column b bs rest is))

-- what a run has by its first part, which begins with its first byte, and by its last part
pub record HasEnds (texts : List (List ℕ)) (s : Span) : Type 0 where
  pub first : RunPart
  pub others : List RunPart
  pub parts : run_parts texts s ≡ first ∷ others
  pub apart : are_apart true true (first ∷ others) ≡ true
  pub number : is_number_sign texts (part_item first) ≡ false
  pub merges : (e : Token) → would_merge_in_run texts e (part_token first) ≡ would_merge_in_run texts e (token.Run s)
  pub follows : may_follow_name texts (part_token first) ≡ (first_byte texts s == left_parenthesis)
  pub last : EndsRun texts (last_of (part_token first) others) (last_byte texts s)

pub run-ends : (texts : List (List ℕ)) (s : Span) → IsRunOf texts s → HasEnds texts s
unfolding run_parts
run-ends texts s run =
    by (span_text texts s) _ (sym (take-append-drop (s.end - s.start) (drop s.start text))) size refl run.apart
  where
    text : List ℕ
    text = get_or texts s.line []

    size : s.start + length (span_text texts s) ≡ s.end
    size = grind (arith, run.span.start, run.span.end, length-take-le, length-drop)

    by : (bs rest : List ℕ) → drop s.start text ≡ bs ++ rest → s.start + length bs ≡ s.end → span_text texts s ≡ bs
        → are_apart true true (parts_of s.line s.start 0 bs) ≡ true → HasEnds texts s
    by [] rest all fits same apart = cc
    by (b ∷ bs) rest all fits same apart =
        let m : ℕ = part_more b bs in
        let is = front_byte texts s.line s.start b bs rest all in
        let last : last_byte texts s ≡ get_or (b ∷ bs) (length bs) 0
        = grind (arith, nat_tests, get_or-drop s.start text (length bs) 0, get_or_append_left (b ∷ bs) rest 0 (length bs)) in
        record {
          first = part_at s.line s.start (1 + m) b;
          others = parts_of s.line (s.start + 1) m bs;
          parts = ap (parts_of s.line s.start 0) same;
          apart = apart;
          number = part-by (λ q. is_number_sign texts (part_item q) ≡ false) s.line s.start (1 + m) b
              (λ h. refl) (λ h. refl) (λ h other. refl) (λ h other. run.begins);
          -- the first part, a word or a sign, is read as one with what the run is read as one with
          merges = λ x. search (rules, nat_tests);
          -- it may follow a macro's name if it is an opening parenthesis
          follows = grind (arith, nat_tests);
          last = rw last
              (parts-end texts s.line s.start 0 space (b ∷ bs) rest token.White all (omega arith) (white-ends texts));
        }
