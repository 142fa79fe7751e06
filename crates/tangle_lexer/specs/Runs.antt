-- The tokens of runs. A run of words, signs, quoted texts and single spaces of one line is one token
-- while C text is read.
use Rattle.std.specs.Prelude.{◌≡◌, ◌==◌, ℕ, Bool, true, false, not, if◌then◌else◌, List, [], ◌∷◌, map}
use Rattle.std.specs.Prelude.{flat_map}
use Rattle.std.specs.List.{list_any}
use Rattle.tangle_lexer.specs.declared.tokens.SpanKind.TheVariants as span_kind
use Rattle.tangle_lexer.specs.declared.tokens.Token.{Token}
use Rattle.tangle_lexer.specs.declared.tokens.Token.TheVariants as token
use Rattle.tangle_text.specs.declared.runs.RunPart.{RunPart}
use Rattle.tangle_text.specs.declared.runs.RunPart.TheVariants as part
use Rattle.tangle_text.specs.declared.spans.Span.{Span}
use Rattle.tangle_text.specs.Runs.{run_parts, are_apart}
use Rattle.tangle_text.specs.Bytes.{number_sign, backslash}
use Rattle.tangle_text.specs.Text.{IsSpan}
use Rattle.tangle_lexer.specs.LinesOfParts.{is_between_items}
use Rattle.tangle_lexer.specs.SpanBytes.{first_byte, last_byte}

-- the token of a part of a run
abbrev pub part_token : RunPart → Token
part_token (part.Word s) = token.Span span_kind.Word s
part_token (part.Quoted s) = token.Span span_kind.Quoted s
part_token (part.Sign s) = token.Span span_kind.Sign s
part_token part.Space = token.White

-- the tokens of a run; any other token by itself
abbrev pub unfolded_token : List (List ℕ) → Token → List Token
unfolded_token texts (token.Run s) = map part_token (run_parts texts s)
unfolded_token texts t = t ∷ []

-- tokens with the tokens of each run in its place
abbrev pub unfolded : List (List ℕ) → List Token → List Token
unfolded texts tokens = flat_map (unfolded_token texts) tokens

abbrev pub is_run : Token → Bool
is_run (token.Run s) = true
is_run _ = false

-- some of these tokens is an item
abbrev pub has_item : List Token → Bool
has_item tokens = list_any (λ t. not (is_between_items t)) tokens

-- the first item of these tokens is in no run
abbrev pub first_is_alone : List Token → Bool
first_is_alone [] = true
first_is_alone (t ∷ ts) = if is_between_items t then first_is_alone ts else not (is_run t)

-- A range of a line that begins with a word or with a sign other than `#`, and does not end in a
-- backslash. Each space has another part directly before and after it, and no quoted text is
-- directly after a word.
pub record IsRunOf (texts : List (List ℕ)) (s : Span) : Type 0 where
  pub span : IsSpan texts s
  pub apart : are_apart true true (run_parts texts s) ≡ true
  pub begins : (first_byte texts s == number_sign) ≡ false
  pub ends : (last_byte texts s == backslash) ≡ false

-- the token is no run, or the run is one of these lines
abbrev pub IsRunIn : List (List ℕ) → Token → Type 0
IsRunIn texts (token.Run s) = IsRunOf texts s
IsRunIn texts _ = Unit {0}
