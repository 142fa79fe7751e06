-- The first and the last byte of spans and tokens. `texts` are the bytes of the source lines.
use Rattle.std.specs.Prelude.{ℕ, ◌-◌, Bool, false, ◌==◌, List, [], nat_le, get_or, if◌then◌else◌}
use Rattle.tangle_text.specs.Bytes.{backslash}
use Rattle.tangle_text.specs.declared.spans.Span.{Span}
use Rattle.tangle_lexer.specs.declared.tokens.SpanKind.TheVariants as span_kind
use Rattle.tangle_lexer.specs.declared.tokens.Token.{Token}
use Rattle.tangle_lexer.specs.declared.tokens.Token.TheVariants as token

-- the first byte of a span
abbrev pub first_byte : List (List ℕ) → Span → ℕ
first_byte texts s = get_or (get_or texts s.line []) s.start 0

-- the last byte of a span, or 0 if the span is empty
abbrev pub last_byte : List (List ℕ) → Span → ℕ
last_byte texts s =
    if nat_le s.end s.start then 0 else get_or (get_or texts s.line []) (s.end - 1) 0

-- whether a token is a sign or a verbatim text that ends in this byte
abbrev pub ends_in : ℕ → List (List ℕ) → Token → Bool
ends_in b texts (token.Span span_kind.Sign s) = first_byte texts s == b
ends_in b texts (token.Span span_kind.Verbatim s) = last_byte texts s == b
ends_in b texts _ = false

abbrev pub ends_in_backslash : List (List ℕ) → Token → Bool
ends_in_backslash = ends_in backslash
