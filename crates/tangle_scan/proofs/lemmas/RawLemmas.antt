-- The size of a quoted text, by its first unit; and tokens that have no fault.
use Rattle.std.proofs.Common.{arith}
use Rattle.std.proofs.Common.{◌≡◌, ◌<◌, ℕ, ◌+◌, zero, suc, List, [], ◌∷◌, length, drop, get_or, slice_get, Some, refl}
use Rattle.tangle_text.specs.Regions.{unit_of}
use Rattle.tangle_text.specs.declared.regions.Region.TheVariants as region
use Rattle.tangle_scan.specs.RawStrings.{size_by, quoted_size, may_have_fault}
use Rattle.std.proofs.Common.{false, List, Option, None}
use Rattle.std.specs.List.{list_any}
use Rattle.std.proofs.lemmas.Bool.{or_parts}
use Rattle.tangle_files.specs.Lines.{FileTable}
use Rattle.tangle_lines.specs.Reading.{SourceLine}
use Rattle.tangle_text.specs.declared.spans.Span.{Span}
use Rattle.tangle_lexer.specs.declared.tokens.Token.{Token}
use Rattle.tangle_lexer.specs.declared.tokens.Token.TheVariants as token
use Rattle.tangle_lexer.specs.declared.tokens.SpanKind.TheVariants as span_kind
use Rattle.tangle_scan.specs.Rules.{texts_of}
use Rattle.tangle_scan.specs.Web.{token_faults, raw_fault, quoted_ahead, word_at_end}

pub size_step : (bytes : List ℕ) (end : ℕ) → end < length bytes
    → quoted_size (drop end bytes)
    ≡ size_by (unit_of region.DoubleQuote (Some (get_or bytes end 0)) (slice_get bytes (end + 1)))
    (quoted_size (drop (end + 1) bytes)) (quoted_size (drop (end + 2) bytes))
size_step [] end h = absurd (omega arith)
size_step (b ∷ []) zero h = refl
size_step (b ∷ c ∷ bytes) zero h = refl
size_step (b ∷ bytes) (suc end) h =
    let one : suc end + 1 ≡ suc (end + 1) = omega arith in
    let two : suc end + 2 ≡ suc (end + 2) = omega arith in
    rw (one, two) (size_step bytes end (omega arith))

no_raw_fault : (files : FileTable) (lines : List SourceLine) (word : Option Span) (es : List Token)
    → list_any (may_have_fault (texts_of lines)) es ≡ false → raw_fault files lines word (quoted_ahead es) ≡ []
no_raw_fault files lines word (token.Span span_kind.Quoted s ∷ es) h = grind (arith, or_parts)
no_raw_fault files lines None es h = grind arith
no_raw_fault files lines (Some w) es h = grind arith

pub no_fault : (files : FileTable) (lines : List SourceLine) (word : Option Span) (es : List Token)
    → list_any (may_have_fault (texts_of lines)) es ≡ false → token_faults files lines word es ≡ []
no_fault files lines word [] h = refl
no_fault files lines word (token.Fault kind line ∷ es) h = cc
no_fault files lines word (e ∷ es) h =
    let parts = or_parts (may_have_fault (texts_of lines) e) (list_any (may_have_fault (texts_of lines)) es) h in
    rw (no_raw_fault files lines word (e ∷ es) h) (no_fault files lines (word_at_end (texts_of lines) e) es parts.1)
