-- The table of what may touch is that of the kinds of texts for C.
use Rattle.std.proofs.Common.{rules}
use Rattle.std.proofs.Common.{◌≡◌, ℕ, List, [], ◌∷◌, codes}
use Rattle.tangle_lexer.specs.declared.tokens.Token.{Token}
use Rattle.tangle_lexer.specs.declared.tokens.Token.TheVariants as token
use Rattle.tangle_lexer.specs.declared.tokens.SpanKind.TheVariants as span_kind
use Rattle.tangle_scan.specs.Rules.{touch_kind, may_touch}
use Rattle.c_tokens.specs.Touching.{TextKind, kinds_may_touch}
use Rattle.c_tokens.specs.Touching.TextKind.{Separator, Operator, Plain, Other}
use Rattle.tangle_c_tokens.specs.Kinds.{item_kind}

-- Both tables of what may touch are one: an item of each kind of the first table stands for that kind of the second.

abbrev samples : List (List ℕ)
samples = codes "(!" ∷ []

abbrev sample : TextKind → Token
sample Separator = token.Span span_kind.Sign (record { line = 0; start = 0; end = 1 })
sample Operator = token.Span span_kind.Sign (record { line = 0; start = 1; end = 2 })
sample Plain = token.Span span_kind.Quoted (record { line = 0; start = 0; end = 1 })
sample Other = token.White

sample-kind : (texts : List (List ℕ)) (e : Token) → touch_kind texts e ≡ touch_kind samples (sample (item_kind texts e))
sample-kind texts e = search rules

pub same_table : (texts : List (List ℕ)) (e f : Token) → may_touch texts e f ≡ kinds_may_touch (item_kind texts e) (item_kind texts f)
same_table texts e f = search (rules, sample-kind)
