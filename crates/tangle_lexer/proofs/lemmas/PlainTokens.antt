-- Tokens that are neither heads nor uses nor runs.
use Rattle.std.proofs.Common.{rules}
use Rattle.std.proofs.lemmas.Bool.Decides.{nat_tests}
use Rattle.std.proofs.Common.{arith}
use Rattle.std.proofs.Common.{◌≡◌, ℕ, zero, suc, Bool, true, false, List, [], ◌∷◌, ◌++◌, refl}
use Rattle.std.proofs.Common.{flat_map, map}
use Rattle.std.specs.List.{list_any}
use Rattle.std.proofs.lemmas.List.Folds.{list_any-append}
use Rattle.tangle_faults.specs.declared.faults.FaultKind.{FaultKind}
use Rattle.tangle_lexer.specs.declared.tokens.Token.{Token}
use Rattle.tangle_lexer.specs.declared.tokens.Token.TheVariants as token
use Rattle.tangle_text.specs.declared.regions.Region.{Region}
use Rattle.tangle_text.specs.declared.regions.Unit.{Unit as Unit-of}
use Rattle.tangle_text.specs.Text.{Cell, byte_at}
use Rattle.tangle_text.specs.Regions.{unit_at, more_by}
use Rattle.tangle_lexer.specs.LinesOfC.{inner_end_in}
use Rattle.tangle_lexer.specs.LinesOfParts.{is_use_fault}
use Rattle.tangle_lexer.specs.Lexemes.{fault_if}
use Rattle.tangle_lexer.specs.Comments.{line_ends}
use Rattle.tangle_lexer.specs.Quoted.{next_start, at_stop, cut_tokens}
use Rattle.tangle_lexer.specs.Quoted.{verbatim_tokens}
use Rattle.tangle_lexer.specs.Heads.{is_head}

-- no token passes this test
abbrev pub HasNone : (Token → Bool) → List Token → Type 0
HasNone test ts = list_any test ts ≡ false

pub none-append : (test : Token → Bool) (ts us : List Token)
    → HasNone test ts → HasNone test us → HasNone test (ts ++ us)
none-append test ts us h j = rw (list_any-append test ts us, h) j

-- tokens pass no test that is weaker at each token
pub none-by : (p q : Token → Bool) → ((t : Token) → p t ≡ false → q t ≡ false)
    → (ts : List Token) → HasNone p ts → HasNone q ts
none-by p q weaker [] h = refl
none-by p q weaker (t ∷ ts) h = grind (arith, nat_tests, none-by p q weaker ts)

-- a token that is a head, a use or a run
abbrev pub is_not_plain : Token → Bool
is_not_plain (token.UseOf line occurrence) = true
is_not_plain (token.Run s) = true
is_not_plain t = is_head t

pub record ArePlain (ts : List Token) : Type 0 where
  pub none : HasNone is_not_plain ts

pub plain-append : (xs ys : List Token) → ArePlain xs → ArePlain ys → ArePlain (xs ++ ys)
plain-append xs ys h k = record { none = none-append is_not_plain xs ys h.none k.none }

pub fault_if-plain : (b : Bool) (kind : FaultKind) (line : ℕ) → ArePlain (fault_if b kind line)
fault_if-plain x kind line = grind arith

-- line ends

pub none-flat : (test : Token → Bool) (f : List Cell → List Token)
    → ((u : List Cell) → HasNone test (f u)) → (us : List (List Cell)) → HasNone test (flat_map f us)
none-flat test f h [] = refl
none-flat test f h (u ∷ us) = none-append test (f u) (flat_map f us) (h u) (none-flat test f h us)

pub line_ends-plain : (r : Region) (text : List Cell) → ArePlain (line_ends r text)
line_ends-plain r text = grind (arith, nat_tests, none-flat)

inner_ends-plain : (b : Bool) (ts : List Token)
    → HasNone is_not_plain ts → HasNone is_not_plain (map (inner_end_in b) ts)
inner_ends-plain b [] h = refl
inner_ends-plain b (t ∷ ts) h = grind (arith, nat_tests, inner_ends-plain b ts)

pub white-plain : (b : Bool) (ends faults : List Token)
    → ArePlain ends → ArePlain faults → ArePlain (token.White ∷ map (inner_end_in b) ends ++ faults)
white-plain b ends faults h k = grind (arith, nat_tests, none-append, inner_ends-plain)

-- ranges of quoted and verbatim texts

-- a token that is no part of such a text
abbrev pub is_not_text : Token → Bool
is_not_text (token.Span kind s) = false
is_not_text (token.QuoteBreak n) = false
is_not_text (token.Fault kind line) = is_use_fault (token.Fault kind line)
is_not_text _ = true

-- the tokens of a text
pub record AreText (ts : List Token) : Type 0 where
  pub none : HasNone is_not_text ts

text-append : (xs ys : List Token) → AreText xs → AreText ys → AreText (xs ++ ys)
text-append xs ys h k = (record { none = (none-append is_not_text xs ys h.none k.none) })

pub text-plain : (ts : List Token) → AreText ts → ArePlain ts
text-plain ts h = grind (arith, nat_tests, none-by)

at_stop-text : (u : Unit-of) (ending others : List Token)
    → AreText ending → AreText others → AreText (at_stop u ending others)
at_stop-text x ending others h k = grind arith

pub cut_tokens-text : (ends : ℕ → List Cell → List Token) (r : Region) (k start : ℕ) (text : List Cell)
    → ((start : ℕ) (text : List Cell) → AreText (ends start text)) → AreText (cut_tokens ends r k start text)
cut_tokens-text ends r k start [] h = h start []
cut_tokens-text ends r (suc k) start (c ∷ cs) h = cut_tokens-text ends r k start cs h
cut_tokens-text ends r zero start (c ∷ cs) h =
    at_stop-text (unit_at r (c ∷ cs)) _ _ (h start (c ∷ cs))
    (text-append _ _ (grind arith)
    (cut_tokens-text ends r (more_by (unit_at r (c ∷ cs)))
    (next_start (unit_at r (c ∷ cs)) start c (byte_at 0 cs)) cs h))

pub verbatim_tokens-text : (text : List Cell) → AreText (verbatim_tokens text)
verbatim_tokens-text text = search (rules, cut_tokens-text)
