-- Macros of which C reads the tokens of the groups, and one for each premise that reads otherwise
-- without it.
use Rattle.std.proofs.Common.{rules}
use Rattle.std.proofs.Common.{arith}
use Rattle.std.proofs.Common.{◌≡◌, ℕ, ◌+◌, Bool, true, false, List, [], ◌∷◌, ◌++◌, flat_map, codes, length, take, None, Some}
use Rattle.std.specs.Str.{bytes_eq}
use Rattle.std.specs.Prelude.{◌==◌, if◌then◌else◌}
use Rattle.std.specs.List.{AllByRecursion, last_or}
use Prim.Native.String.{String}
use Rattle.c_tokens.specs.Bytes.{space, line_feed}
use Rattle.c_tokens.specs.Grammar.{is_element, is_token, is_punctuator}
use Rattle.c_tokens.specs.Reading.{tokens}
use Rattle.c_tokens.specs.Borders.{is_whole, keep_lines}
use Rattle.tangle_lexer.specs.declared.tokens.Token.{Token}
use Rattle.tangle_lexer.specs.declared.tokens.Token.TheVariants as token
use Rattle.tangle_lexer.specs.declared.tokens.SpanKind.{SpanKind}
use Rattle.tangle_lexer.specs.declared.tokens.SpanKind.TheVariants as span_kind
use Rattle.tangle_scan.specs.Rules.{macro_blanks, unmarked_items}
use Rattle.tangle_scan.specs.MacroBytes.{macro_bytes}
use Rattle.tangle_scan.specs.ReadAsMeant.{written_tokens}
use Rattle.tangle_c_tokens.specs.Groups.{groups, group_text}
use Rattle.tangle_c_tokens.specs.Macros.{stay_apart, IsReadAlone}
use Rattle.std.proofs.lemmas.Bool.Decides.{nat_tests}

-- the text of the items of the examples: words, signs, a header name, a character constant, and a
-- verbatim text that is a backslash
abbrev pub text : List ℕ
text = codes "f ( x ) 1 . e + 1e / * <x> = \\ els 'x'"

abbrev texts : List (List ℕ)
texts = text ∷ []

-- where these bytes begin
abbrev position : List ℕ → List ℕ → ℕ
position found [] = 0
position found (b ∷ bs) = if bytes_eq found (take (length found) (b ∷ bs)) then 0 else position found bs + 1

abbrev pub item : SpanKind → String → Token
item kind name =
    let start : ℕ = position (codes name) text in
    token.Span kind (record { line = 0; start = start; end = start + length (codes name) })

abbrev pub word : String → Token
word = item span_kind.Word

abbrev pub sign : String → Token
sign = item span_kind.Sign

abbrev pub line_end : Token
line_end = token.LineEnd 0

-- the bytes of a macro, and the tokens of its groups

abbrev bytes : List Token → List ℕ
bytes es = macro_bytes texts (unmarked_items (macro_blanks texts true None false es))

abbrev tokens_of_groups : List Token → List (List ℕ)
tokens_of_groups es =
    tokens (codes "#define") ++ flat_map (λ g. tokens (group_text texts g.items))
    (groups (written_tokens texts es))

-- the words between the spaces of a text
abbrev pub words_after : List ℕ → List ℕ → List (List ℕ)
words_after word [] = word ∷ []
words_after word (b ∷ bs) =
    if b == space then word ∷ words_after [] bs else words_after (word ++ b ∷ []) bs

abbrev pub words : String → List (List ℕ)
words text = words_after [] (codes text)

-- the macro that is written, the words that C reads of it, and those of its groups
abbrev AreRead : List Token → String → String → String → Type 0
AreRead es written read of_groups =
    (bytes es ≡ codes written) × (tokens (bytes es) ≡ words read) × (tokens_of_groups es ≡ words of_groups)

-- whether items on both sides of a line end stay apart: those of the group and the next one
abbrev stay : List Token → Token → Bool
stay items next = stay_apart texts (group_text texts items) (last_or None items) (Some next)

abbrev over_lines : List Token
over_lines =
    word "f" ∷ sign "(" ∷ word "x" ∷ sign ")" ∷ token.White ∷ word "1" ∷ sign "+" ∷ line_end ∷ word "e" ∷ []

over_lines_alone : AllByRecursion (IsReadAlone texts) (groups (written_tokens texts over_lines))
unfolding is_element is_token is_punctuator
over_lines_alone = grind (arith, nat_tests)

record Examples : Type 0 where
  -- A macro over two lines, of which the second touches the first: a plus sign, and then a word.
  pub over_lines_read :
      AreRead over_lines "#define f(x) 1+\\\ne\n" "# define f ( x ) 1 + e" "# define f ( x ) 1 + e"
  -- A group that opens a comment: `/@&*` and a word after it.
  pub comment_read :
      AreRead (word "f" ∷ token.White ∷ sign "/" ∷ sign "*" ∷ token.White ∷ word "x" ∷ [])
      "#define f /* x\n" "# define f" "# define f x"
  pub comment_refused : is_whole (group_text texts (sign "/" ∷ sign "*" ∷ [])) ≡ false
  -- A number of several items that goes on with a sign, one that goes on with a word after a sign,
  -- and one that goes on with an apostrophe after a sign.
  pub number_before_read :
      AreRead (word "f" ∷ token.White ∷ word "1" ∷ sign "." ∷ word "e" ∷ line_end ∷ sign "+" ∷ word "1" ∷ [])
      "#define f 1.e\\\n+1\n" "# define f 1.e+1" "# define f 1.e + 1"
  pub number_in_sign_read :
      AreRead (word "f" ∷ token.White ∷ word "1e" ∷ sign "+" ∷ line_end ∷ word "x" ∷ [])
      "#define f 1e+\\\nx\n" "# define f 1e+x" "# define f 1e+ x"
  pub number_in_character_read :
      AreRead (word "f" ∷ token.White ∷ word "1e" ∷ sign "+" ∷ line_end ∷ item span_kind.Quoted "'x'" ∷ [])
      "#define f 1e+\\\n'x'\n" "# define f 1e+'x '" "# define f 1e+ 'x'"
  pub numbers_refused :
      (stay (word "1" ∷ sign "." ∷ word "e" ∷ []) (sign "+") ≡ false)
      × (stay (word "1e" ∷ sign "+" ∷ []) (word "x") ≡ false)
      × (stay (word "1e" ∷ sign "+" ∷ []) (item span_kind.Quoted "'x'") ≡ false)
  -- Another number does not go on: `1.f`, and then a plus sign.
  pub number_ended : stay (word "1" ∷ sign "." ∷ word "f" ∷ []) (sign "+") ≡ true
  -- A header name, which does not end as a quoted text does, before an operator.
  pub header_name_read :
      AreRead (word "f" ∷ token.White ∷ item span_kind.Quoted "<x>" ∷ line_end ∷ sign "=" ∷ [])
      "#define f <x>\\\n=\n" "# define f < x >=" "# define f < x > ="
  pub header_name_refused : stay (item span_kind.Quoted "<x>" ∷ []) (sign "=") ≡ false
  -- A verbatim text at the end of a macro that ends in a backslash.
  pub backslash_at_end_read :
      AreRead (word "f" ∷ token.White ∷ item span_kind.Verbatim "\\" ∷ [])
      "#define f \\\n" "# define f" "# define f \\"
  pub backslash_at_end_refused :
      keep_lines (group_text texts (item span_kind.Verbatim "\\" ∷ [])) (line_feed ∷ []) ≡ false

examples : Examples
unfolding is_element is_token is_punctuator
examples = search rules
