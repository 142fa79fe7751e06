-- White space that ends on its line: which lexemes are white space alone, and the text after it.
use Rattle.tangle_lexer.proofs.lemmas.RegionSteps.{unit_steps}
use Rattle.std.proofs.Common.{rules}
use Rattle.std.proofs.lemmas.Bool.Decides.{nat_tests}
use Rattle.std.proofs.Common.{arith}
use Rattle.std.proofs.Common.{◌≡◌, ◌<◌, ℕ, zero, suc, ◌+◌, Bool, true, false, not, ◌&&◌, List, [], ◌∷◌, ◌++◌}
use Rattle.std.proofs.Common.{map, length, drop, drop-drop, Option, refl, sym, ◌∙◌}
use Rattle.std.proofs.lemmas.Bool.{and_parts}
use Rattle.std.specs.Prelude.{is_some}
use Rattle.tangle_faults.specs.declared.faults.FaultKind.{FaultKind}
use Rattle.tangle_faults.specs.declared.faults.FaultKind.TheVariants as fault
use Rattle.tangle_lexer.specs.declared.constants.AsciiConstant.{AsciiConstant}
use Rattle.tangle_lexer.specs.declared.lexeme_kinds.ControlCode.{ControlCode}
use Rattle.tangle_lexer.specs.declared.lexeme_kinds.ControlCode.TheVariants as code
use Rattle.tangle_lexer.specs.declared.lexeme_kinds.LexemeKind.{LexemeKind}
use Rattle.tangle_lexer.specs.declared.lexeme_kinds.LexemeKind.TheVariants as lexeme_kind
use Rattle.tangle_lexer.specs.declared.modes.LexerState.{LexerState}
use Rattle.tangle_lexer.specs.declared.tokens.Token.{Token}
use Rattle.tangle_lexer.specs.declared.tokens.Token.TheVariants as token
use Rattle.tangle_text.specs.declared.regions.Region.{Region}
use Rattle.tangle_text.specs.declared.regions.Region.TheVariants as region
use Rattle.tangle_text.specs.declared.regions.Unit.{Unit as Unit-of}
use Rattle.tangle_text.specs.declared.regions.Unit.TheVariants as unit
use Rattle.tangle_text.specs.Bytes.{is_line_end}
use Rattle.tangle_text.specs.Text.{Cell, byte_at}
use Rattle.tangle_text.specs.Regions.{unit_at, more_by, count_before, region_end}
use Rattle.tangle_text.proofs.RegionLemmas.{region_end-is, region_end-stop, region_end-nothing}
use Rattle.tangle_lexer.specs.LinesOfC.{inner_end_in}
use Rattle.tangle_lexer.specs.Lexemes.{fault_if}
use Rattle.tangle_lexer.specs.Comments.{comment_or_control_text, line_comment, line_ends, ends_region, starts_section}
use Rattle.tangle_lexer.specs.Comments.{is_on_line, ends_on_line, two_if}
use Rattle.tangle_lexer.specs.Constants.{constant_lexeme}
use Rattle.tangle_lexer.specs.White.{is_white_alone, lexeme_but_name, next_but_name}
use Rattle.tangle_lexer.specs.White.{white_count, white_end}
use Rattle.tangle_lexer.proofs.lemmas.RegionSteps.{line_ends-go}
use Rattle.tangle_lexer.proofs.lemmas.RegionSteps.{ended-ahead}
use Rattle.tangle_lexer.proofs.lemmas.PlainTokens.{AreText, verbatim_tokens-text}
use Rattle.tangle_lexer.proofs.lemmas.PlainLexemes.{quoted-text}

-- white space with line ends, and with a fault unless it ends

white-by : (ends : List Token) (is_ended : Bool) (kind : FaultKind) (line : ℕ)
    → is_white_alone (token.White ∷ ends ++ fault_if (not is_ended) kind line) ≡ (is_on_line ends && is_ended)
white-by ends is_ended kind line = grind arith

inner-on_line : (b : Bool) (ends : List Token) → is_on_line (map (inner_end_in b) ends) ≡ is_on_line ends
inner-on_line b x = grind arith

pub region-white : (r : Region) (kind : FaultKind) (s : LexerState) (text : List Cell)
    → is_white_alone (comment_or_control_text r kind s text).tokens ≡ ends_on_line r (drop 2 text)
region-white r kind s text = grind (arith, nat_tests, white-by, inner-on_line, region_end-is)

-- the text after a region that two cells open, if it ends on its first line
pub region-ahead : (r : Region) (text inner rest : List Cell)
    → inner ≡ drop 1 (drop 1 text) → ends_on_line r inner ≡ true → rest ≡ drop 2 (region_end r inner) → rest
    ≡ drop (1 + count_before r (drop 2 text)
    + two_if (ends_region r (drop (count_before r (drop 2 text)) (drop 2 text)))) (drop 1 text)
region-ahead r text inner rest is ends go = grind (arith, nat_tests, and_parts, ended-ahead)

-- // up to the line end is white space alone if no section start is in it
pub line-white : (s : LexerState) (text : List Cell) → is_white_alone (line_comment s text).tokens
    ≡ not (starts_section (drop (count_before region.LineComment (drop 2 text)) (drop 2 text)))
line-white s text = by (starts_section (drop (count_before region.LineComment (drop 2 text)) (drop 2 text))) _
  where
    by : (b : Bool) (line : ℕ) → is_white_alone (token.White ∷ [] ++ fault_if b fault.CommentEnd line) ≡ not b
    by b line = search rules

-- Whether a region ends on its first line, by a position that is reached in it without a line end before.

module _ (r : Region) (text whole : List Cell)
    (ends : line_ends r text ≡ line_ends r whole) (end : region_end r text ≡ region_end r whole) where
  pub ends-here : unit_at r text ≡ unit.Stop → ends_region r text ≡ ends_on_line r whole
  ends-here stop = grind (arith, nat_tests, region_end-stop)

  pub never-ends : text ≡ [] → ends_on_line r whole ≡ false
  never-ends is = grind (arith, nat_tests, region_end-nothing)

pub no-line_end : (b : Option ℕ) → is_some b ≡ true → is_line_end b ≡ false
no-line_end b h = grind arith

-- a unit without a line end adds none
pub line-goes : (r : Region) (text : List Cell) (u : Unit-of) → 0 < length text → unit_at r text ≡ u
    → (u ≡ unit.Stop → ⊥) → is_line_end (byte_at 0 text) ≡ false
    → line_ends r text ≡ line_ends r (drop (more_by u) (drop 1 text))
line-goes r text u inside here go some = rw (line_ends-go r 0 text u inside here go, some) refl

-- the tokens of a quoted or verbatim text are no white space
text-dark : (ts : List Token) → AreText ts → is_white_alone ts ≡ false
text-dark ts h = grind (arith, nat_tests)

constant-dark : (constant : Option AsciiConstant) (s : LexerState) (text : List Cell)
    → is_white_alone (constant_lexeme constant s text).tokens ≡ false
constant-dark x s text = grind arith

pub code-dark : (kind : ControlCode) (text : List Cell) → (kind ≡ code.ControlText → ⊥) → (kind ≡ code.Other → ⊥)
    → is_white_alone (lexeme_but_name (lexeme_kind.Control kind) text).tokens ≡ false
code-dark kind text h k = grind (arith, nat_tests, text-dark, verbatim_tokens-text, constant-dark)

pub kind-dark : (kind : LexemeKind) (text : List Cell)
    → (kind ≡ lexeme_kind.White → ⊥) → (kind ≡ lexeme_kind.BlockComment → ⊥)
    → (kind ≡ lexeme_kind.LineComment → ⊥) → ((code : ControlCode) → kind ≡ lexeme_kind.Control code → ⊥)
    → is_white_alone (lexeme_but_name kind text).tokens ≡ false
kind-dark (lexeme_kind.Control code) text white block line control = absurd (control code refl)
kind-dark x text white block line control = first_of (search (rules, text-dark, quoted-text), grind arith)

-- the text after the white space at the front

skipped : (k : ℕ) (text : List Cell) → drop (white_count k text) text ≡ white_end (drop k text)
skipped zero text = refl
skipped (suc k) [] = refl
skipped (suc k) (c ∷ cs) = sym (drop-drop (white_count k cs) 1 (c ∷ cs)) ∙ skipped k cs

pub white-goes : (text : List Cell) → is_white_alone (next_but_name text).tokens ≡ true
    → white_end text ≡ white_end (drop (next_but_name text).more (drop 1 text))
white-goes [] h = grind (arith, nat_tests)
white-goes (c ∷ cs) h =
    let more = (next_but_name (c ∷ cs)).more in
    rw h (sym (drop-drop (white_count more cs) 1 (c ∷ cs)) ∙ skipped more cs)

-- what the functions that read white space take from here
pub ruleset white_steps = (unit_steps, ends-here, never-ends, no-line_end, line-goes, white-goes, line-white, code-dark, kind-dark)
