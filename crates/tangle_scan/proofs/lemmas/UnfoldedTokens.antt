-- The tokens of runs are no heads, no faults and no @h.
use Rattle.std.proofs.Common.{arith}
use Rattle.std.proofs.Common.{◌≡◌, Bool, false, List, [], ◌∷◌, map, refl, sym, ◌∙◌}
use Rattle.std.specs.List.{list_any}
use Rattle.std.proofs.lemmas.List.Folds.{list_any-append}
use Rattle.std.proofs.Math.Bool.{or-false}
use Rattle.tangle_files.specs.Lines.{FileTable}
use Rattle.tangle_lines.specs.Reading.{SourceLine}
use Rattle.tangle_text.specs.declared.spans.Span.{Span}
use Rattle.tangle_text.specs.declared.runs.RunPart.{RunPart}
use Rattle.tangle_text.specs.declared.runs.RunPart.TheVariants as part
use Rattle.tangle_text.specs.Runs.{run_parts}
use Rattle.tangle_lexer.specs.declared.tokens.Token.{Token}
use Rattle.tangle_lexer.specs.declared.tokens.Token.TheVariants as token
use Rattle.tangle_lexer.specs.declared.tokens.SpanKind.{SpanKind}
use Rattle.tangle_lexer.specs.Heads.{is_head}
use Rattle.tangle_lexer.specs.Runs.{first_is_alone, part_token, unfolded_token, unfolded}
use Rattle.tangle_scan.specs.Web.{is_all_macros}
use Rattle.std.proofs.Common.{ℕ, suc, true, ◌++◌, None, is_some}
use Rattle.std.specs.List.{All}
use Rattle.std.proofs.lemmas.List.Elements.{All-tail}
use Rattle.tangle_text.specs.Runs.{are_apart}
use Rattle.tangle_lexer.specs.Runs.{IsRunIn}
use Rattle.tangle_scan.specs.Rules.{texts_of}
use Rattle.tangle_scan.specs.Web.{macro_token_faults, token_faults, quoted_ahead, last_of, word_of}

-- a test that neither a run nor a part of one passes: the parts are white space and spans

module _ (test : Token → Bool) (white : test token.White ≡ false)
    (span : (kind : SpanKind) (s : Span) → test (token.Span kind s) ≡ false)
    (run : (s : Span) → test (token.Run s) ≡ false) (texts : List (List ℕ)) where
  any-parts : (xs : List RunPart) → list_any test (map part_token xs) ≡ false
  any-parts [] = refl
  any-parts (x ∷ xs) = grind (arith, white, span, any-parts xs)

  any-token : (t : Token) → list_any test (unfolded_token texts t) ≡ test t
  any-token (token.Run s) = any-parts (run_parts texts s) ∙ sym (run s)
  any-token t = or-false (test t)

  any-unfolded : (ts : List Token) → list_any test (unfolded texts ts) ≡ list_any test ts
  any-unfolded [] = refl
  any-unfolded (t ∷ ts) = rw (list_any-append, any-token t, any-unfolded ts) refl

pub all_macros-unfolded : (texts : List (List ℕ)) (ts : List Token)
    → list_any is_all_macros (unfolded texts ts) ≡ list_any is_all_macros ts
all_macros-unfolded texts ts = any-unfolded is_all_macros refl (λ kind s. refl) (λ s. refl) texts ts

-- no part of a run is a fault, and no quoted text of a run follows a word

parts-faults : (files : FileTable) (lines : List SourceLine) (after_space after_word : Bool) (e : Token)
    (xs : List RunPart) (ts : List Token) → are_apart after_space after_word xs ≡ true
    → (is_some (word_of e) ≡ true → after_word ≡ true)
    → token_faults files lines (word_of e) (map part_token xs ++ ts) ≡ token_faults files lines (word_of (last_of e xs)) ts
parts-faults files lines after_space after_word e [] ts h may = refl
parts-faults files lines after_space after_word e (part.Space ∷ xs) ts h may =
    grind (arith, parts-faults files lines true false token.White xs ts)
parts-faults files lines after_space after_word e (x ∷ xs) ts h may =
    let more = λ (word : Bool). parts-faults files lines false word (part_token x) xs ts in grind (arith, more true, more false)

-- a run has parts
first-last : (e : Token) (xs : List RunPart) → are_apart true true xs ≡ true → last_of e xs ≡ last_of token.White xs
first-last e [] h = cc
first-last e (x ∷ xs) h = refl

-- a run begins with no quoted text, nor do its parts
ahead-parts : (xs : List RunPart) (ts : List Token) → are_apart true true xs ≡ true
    → quoted_ahead (map part_token xs ++ ts) ≡ None
ahead-parts [] ts h = cc
ahead-parts (x ∷ xs) ts h = grind arith

ahead-unfolded : (lines : List SourceLine) (ts : List Token) → All (IsRunIn (texts_of lines)) ts
    → quoted_ahead (unfolded (texts_of lines) ts) ≡ quoted_ahead ts
ahead-unfolded lines [] runs = refl
ahead-unfolded lines (token.Run s ∷ ts) runs =
    ahead-parts (run_parts (texts_of lines) s) _ (runs 0 (token.Run s) (omega arith)).apart
ahead-unfolded lines (t ∷ ts) runs = grind (arith, ahead-unfolded lines ts (λ k d low. runs (suc k) d (omega arith)))

-- `before` is the last token before these
pub faults-unfolded : (files : FileTable) (lines : List SourceLine) (before : Token) (ts : List Token)
    → All (IsRunIn (texts_of lines)) ts
    → token_faults files lines (word_of before) (unfolded (texts_of lines) ts) ≡ token_faults files lines (word_of before) ts
faults-unfolded files lines before [] runs = refl
faults-unfolded files lines before (token.Run s ∷ ts) runs =
    let run = runs 0 (token.Run s) (omega arith) in
    let more = All-tail (IsRunIn (texts_of lines)) (token.Run s) ts runs in
    grind (arith, parts-faults files lines true true before, first-last before, run.apart, λ (e : Token). faults-unfolded files lines e ts more)
faults-unfolded files lines before (t ∷ ts) runs =
    rw (ahead-unfolded lines (t ∷ ts) runs, faults-unfolded files lines t ts (λ k d low. runs (suc k) d (omega arith))) refl

-- the first item of a macro is in no run
pub macro_faults-unfolded : (files : FileTable) (lines : List SourceLine) (ts : List Token) → All (IsRunIn (texts_of lines)) ts
    → first_is_alone ts ≡ true
    → macro_token_faults files lines (unfolded (texts_of lines) ts) ≡ macro_token_faults files lines ts
macro_faults-unfolded files lines [] runs alone = refl
macro_faults-unfolded files lines (t ∷ ts) runs alone =
    let more = All-tail (IsRunIn (texts_of lines)) t ts runs in
    grind (arith, macro_faults-unfolded files lines ts more, faults-unfolded files lines token.White ts more)

-- tokens without a head

pub unfolded-no_head : (texts : List (List ℕ)) (ts : List Token) → list_any is_head ts ≡ false
    → list_any is_head (unfolded texts ts) ≡ false
unfolded-no_head texts ts none = any-unfolded is_head refl (λ kind s. refl) (λ s. refl) texts ts ∙ none
