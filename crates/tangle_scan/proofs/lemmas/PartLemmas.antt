-- What one pass over the tokens of a C part read, and what is left.
use Rattle.std.proofs.lemmas.Bool.Decides.{nat_tests}
use Rattle.std.proofs.Common.{rules}
use Rattle.std.proofs.Common.{◌≡◌, ℕ, Bool, true, false, ◌&&◌, ◌||◌, if◌then◌else◌, refl, Option, None, Some}
use Rattle.std.proofs.Common.{is_some, List, [], ◌∷◌, ◌++◌, ◌∙◌, append_assoc, append-nil, map, arith}
use Rattle.std.proofs.Math.Bool.{or-false}
use Rattle.tangle_lexer.specs.declared.tokens.Token.{Token}
use Rattle.tangle_lexer.specs.declared.tokens.Token.TheVariants as token
use Rattle.tangle_lexer.specs.Runs.{is_run, part_token}
use Rattle.tangle_text.specs.declared.runs.RunPart.{RunPart}
use Rattle.tangle_text.specs.declared.runs.RunPart.TheVariants as part
use Rattle.tangle_text.specs.declared.spans.Span.{Span}
use Rattle.tangle_text.specs.Runs.{run_parts, are_apart}
use Rattle.tangle_lines.specs.declared.origin.Origin.{Origin}
use Rattle.tangle_lines.specs.Reading.{SourceLine}
use Rattle.tangle_scan.specs.declared.items.Item.{Item}
use Rattle.tangle_scan.specs.declared.parts.CountedOrigin.{CountedOrigin}
use Rattle.tangle_scan.specs.declared.parts.Last.{Last}
use Rattle.tangle_scan.specs.declared.parts.Last.TheVariants as last
use Rattle.tangle_scan.specs.declared.parts.PartState.{PartState}
use Rattle.tangle_scan.specs.Texts.{TextRead, part_item}
use Rattle.tangle_scan.specs.Rules.{white_inner_end, would_merge, is_constant}
use Rattle.tangle_scan.specs.Rules.{without_joins, is_gap, left_of_run}
use Rattle.tangle_lexer.specs.SpanBytes.{ends_in, ends_in_backslash}
use Rattle.tangle_scan.specs.Rules.{has_join, texts_of}
use Rattle.tangle_text.specs.Bytes.{slash}
use Rattle.tangle_scan.specs.Rules.{blanks}
use Rattle.tangle_scan.specs.Passes.{IsPartRead, IsPassed, last_of, from_gap, start_of_gap, items_after, spaced_after, blank_before, origin_of}
use Rattle.tangle_scan.specs.Passes.{ends_open, run_ends_in, would_merge_in_run}
use Rattle.tangle_scan.specs.Passes.{is_joined, is_item, keeps_white, last_after_line_end}
use Rattle.tangle_scan.specs.Passes.{items_at, counted_after_token, blank_if}
use Rattle.tangle_scan.specs.declared.turns.Turn.{Turn}
use Rattle.tangle_scan.specs.declared.turns.Turn.TheVariants as turn
use Rattle.tangle_scan.specs.Passes.{turn_after, turn_after_run, turn_after_line_end}
use Rattle.tangle_scan.specs.Passes.{is_number_sign}
use Rattle.tangle_scan.proofs.lemmas.RuleLemmas.{has_join-push, is_solid}
use Rattle.tangle_scan.proofs.lemmas.RunItems.{is_end}

abbrev white_if : Bool → List Token
white_if b = if b then token.White ∷ [] else []

pub blanks-at-front : (texts : List (List ℕ)) (b : Option Token) (es : List Token)
    → is_some b ≡ false → blanks texts b true es ≡ blanks texts b false es
blanks-at-front texts None (token.White ∷ es) h = refl
blanks-at-front texts None es h = refl
blanks-at-front texts (Some x) es h = cc

pub end-joined : (gap : List Token) (line : ℕ) → has_join (gap ++ token.LineEnd line ∷ []) ≡ has_join gap
end-joined gap line = has_join-push gap (token.LineEnd line) ∙ or-false (has_join gap)

-- the state after a line end
abbrev pub after_end : List SourceLine → Bool → ℕ → TextRead → CountedOrigin → PartState → PartState
after_end lines continued line text counted at = record at {
  last = last_after_line_end continued;
  has_white = false;
  turn = turn_after_line_end lines continued line at.turn;
  start = start_of_gap text at;
  counted = counted;
}

-- the gap goes on after the line end
pub gap-continued : (lines : List SourceLine) (kept : List Item) (at : PartState) (continued : Bool) (line : ℕ)
    (text : TextRead) (counted : CountedOrigin) (front : Option Token) (es : List Token)
    → from_gap lines kept (after_end lines continued line text counted at) front es ≡ from_gap lines kept at front es
gap-continued lines kept at x line text counted front es = grind arith

-- the items of the tokens after an item
abbrev ahead : List SourceLine → Token → Turn → Origin → List Token → List Item
ahead lines e at counted es = items_after lines (Some e) at counted false (without_joins [] (spaced_after (texts_of lines) e es))

-- rule 3 at an item
item-blanks : (texts : List (List ℕ)) (at : Last) (white merges : Bool) (before : Option Token) (e : Token)
    (es : List Token) → is_solid e ≡ true → (is_joined at ≡ false → is_some before ≡ keeps_white at)
    → (merges ≡ true → is_item at ≡ true)
    → blanks texts before (keeps_white at && white) (white_if merges ++ e ∷ es)
    ≡ white_if (merges || keeps_white at && white) ++ e ∷ blanks texts (Some e) false es
item-blanks texts x white y before e es solid keeps item = grind arith

-- rules 1 and 2 at an item
item-spaced : (texts : List (List ℕ)) (gap : List Token) (prev e : Token) (es : List Token) (merges : Bool)
    → is_solid e ≡ true → would_merge texts prev e ≡ merges → (merges ≡ true → has_join gap ≡ false)
    → without_joins gap (spaced_after texts prev (e ∷ es))
    ≡ left_of_run gap ++ (white_if merges ++ e ∷ without_joins [] (spaced_after texts e es))
item-spaced texts gap prev x es y solid is joined = grind (arith, has_join-push, append_assoc)

-- how much of a turn is on the line after the first part of a run, and after the others

abbrev is_settled : Turn → Bool
is_settled turn.NoItem = false
is_settled turn.NumberSign = false
is_settled at = true

-- the parts of a run after the first one
parts-ahead : (lines : List SourceLine) (e : Token) (at : Turn) (counted : Origin) (after_word : Bool)
    (ps : List RunPart) (es : List Token) → is_settled at ≡ true → is_constant e ≡ false
    → are_apart false after_word ps ≡ true → ahead lines e at counted (map part_token ps ++ es)
    ≡ map part_item ps ++ ahead lines (last_of e ps) at counted es
parts-ahead lines e at counted after_word [] es settled plain h = refl
parts-ahead lines e at counted after_word (part.Space ∷ p ∷ ps) es settled plain h =
    grind (arith, λ (b : Bool). parts-ahead lines (part_token p) at counted b ps es)
parts-ahead lines e at counted after_word (p ∷ ps) es settled plain h =
    grind (arith, λ (b : Bool). parts-ahead lines (part_token p) at counted b ps es)

module _ (lines : List SourceLine) (whole items kept : List Item) (at : PartState) where
  abbrev texts : List (List ℕ)
  texts = texts_of lines

  -- rule 1 puts no white space before one more token of a gap, which goes on
  pub gap-passed : (new : List Item) (next : PartState) (before : Option Token) (e f : Token) (es : List Token)
      → is_gap e ≡ true → white_inner_end e ≡ f → (h : IsPassed lines whole items kept at (e ∷ es))
      → ((xs : List Token) → from_gap lines kept next h.front xs ≡ from_gap lines kept at h.front xs)
      → IsPartRead lines new kept next (h.gap ++ f ∷ []) h.front before f → IsPassed lines whole new kept next es
  gap-passed new next before e f es gap same h same_left read =
      record { gap = h.gap ++ f ∷ []; front = h.front; before = before; prev = f; read = read; left = grind arith }

  pub item-ahead : (e : Token) (es : List Token) → is_solid e ≡ true → is_run e ≡ false
      → IsPassed lines whole items kept at (e ∷ es)
      → whole ≡ items ++ (blank_if (blank_before lines at e) ++ (items_at lines e
      ++ ahead lines e (turn_after texts at.turn e) (counted_after_token lines (origin_of at.counted) e) es))
  item-ahead e es solid run h = search (rules, item-spaced, item-blanks)

  -- after an item or a run, with which the items end
  pub item-passed : (new : List Item) (next : PartState) (e : Token) (es : List Token)
      → is_end e ≡ false → ends_in_backslash texts e ≡ ends_in_backslash texts next.item
      → ends_in slash texts e ≡ run_ends_in slash texts next.item
      → ((f : Token) → is_run f ≡ false → would_merge texts e f ≡ would_merge_in_run texts next.item f)
      → whole ≡ new ++ ahead lines e next.turn (origin_of next.counted) es
      → IsPassed lines whole new new (record next { last = last.Item; has_white = false }) es
  item-passed new next e es solid continued ends merges left =
      record { gap = []; front = Some e; before = Some e; prev = e; read = grind (arith, merges); left = left }

  -- a part that is no space, before others
  pub part-ahead : (s : Span) (p : RunPart) (ps : List RunPart) (es : List Token) → run_parts texts s ≡ p ∷ ps
      → is_number_sign texts (part_item p) ≡ false → are_apart true true (p ∷ ps) ≡ true
      → IsPassed lines whole items kept at (map part_token (p ∷ ps) ++ es)
      → whole ≡ items ++ (blank_if (blank_before lines at (part_token p)) ++ (map part_item (p ∷ ps)
      ++ ahead lines (last_of (part_token p) ps) (turn_after_run texts at.turn s) (origin_of at.counted) es))
  part-ahead s p ps es is number apart h =
      grind (arith, nat_tests, item-ahead (part_token p) (map part_token ps ++ es), parts-ahead lines)

  pub passed-whole : (es : List Token) → es ≡ [] → IsPassed lines whole items kept at es
      → items ++ blank_if (ends_open texts at) ≡ whole
  passed-whole es none h = grind (arith, append-nil (left_of_run h.gap))
