-- What a C compiler reads, and bytes of macros and pieces that it reads as their author means them, or otherwise.
use Rattle.std.proofs.lemmas.Bool.Decides.{nat_tests}
use Rattle.std.proofs.Common.{arith}
use Rattle.std.proofs.Common.{◌≡◌, ℕ, Bool, true, false, List, [], ◌∷◌, Some, None, codes, refl}
use Rattle.tangle_files.specs.Bytes.{space, line_feed}
use Rattle.tangle_lexer.specs.declared.tokens.Token.{Token}
use Rattle.tangle_lexer.specs.declared.tokens.Token.TheVariants as token
use Rattle.tangle_lexer.specs.declared.tokens.Token.TheVariants.{White, LineEnd, Join}
use Rattle.tangle_lexer.specs.declared.tokens.SpanKind.{SpanKind}
use Rattle.tangle_lexer.specs.declared.tokens.SpanKind.TheVariants as span_kind
use Rattle.tangle_scan.specs.Rules.{is_continued, macro_blanks, unmarked_items, without_backslashes, macro_items}
use Rattle.tangle_scan.specs.MacroBytes.{macro_bytes}
use Rattle.tangle_scan.specs.ReadAsMeant.{Gap, Space, LineFeed, TakenOut, Mark, gap_bytes, as_read}
use Rattle.tangle_scan.specs.ReadAsMeant.{IsReadAs, needs_white}
use Rattle.tangle_scan.specs.ReadAsMeant.{read_tokens, written_tokens, EndsMacro, IsMacroReadAsMeant}
use Rattle.tangle_scan.specs.ReadAsMeant.{EndsPiece}
use Rattle.tangle_scan.proofs.laws.MacrosAsMeant.{macro-as-meant}

-- The items of the examples: a word, another one, a parenthesis, a backslash, verbatim text that ends in a backslash, and
-- the signs of an arrow and a slash.

abbrev texts : List (List ℕ)
texts = codes "hex if ( \\ -> /" ∷ []

abbrev from_to : SpanKind → ℕ → ℕ → Token
from_to kind start end = token.Span kind (record { line = 0; start = start; end = end })

abbrev name : Token
name = from_to span_kind.Word 0 3

abbrev word : Token
word = from_to span_kind.Word 4 6

abbrev parenthesis : Token
parenthesis = from_to span_kind.Sign 7 8

abbrev backslash : Token
backslash = from_to span_kind.Sign 9 10

abbrev verbatim : Token
verbatim = from_to span_kind.Verbatim 7 10

abbrev slash : Token
slash = from_to span_kind.Sign 14 15

abbrev mark : Gap
mark = Mark (record { file = 0; line = 3 })

-- Whether this gap may be between two items, by whether the first ends the name of a macro and by what the author means
-- between the two.
abbrev Fits : Bool → List ℕ → Token → List Gap → Token → Type 0
Fits in_name meant e gap f =
    IsReadAs meant (as_read (is_continued texts (Some e)) gap) (needs_white texts in_name meant (Some e) f)

abbrev Ends : Token → List ℕ → Type 0
Ends e bytes = EndsPiece texts (λ origin. codes "#") (Some e) [] bytes

record Examples : Type 0 where
  -- A compiler reads spaces, line feeds and marks, and takes out a line feed with the backslash before it. Of two
  -- backslashes only the second is taken out, and the bytes that are left are not searched again.
  pub read_gap : as_read false (Space ∷ TakenOut ∷ LineFeed ∷ mark ∷ []) ≡ codes " \n\n"
  pub read_after_item : as_read true (LineFeed ∷ LineFeed ∷ []) ≡ codes "\n"
  pub read_after_backslashes : as_read true (TakenOut ∷ LineFeed ∷ []) ≡ codes "\n"
  -- white space, line ends and backslashes at the end are not written, nor are tokens there that are no items
  pub written :
      written_tokens texts (name ∷ backslash ∷ White ∷ word ∷ LineEnd 0 ∷ Join ∷ backslash ∷ White ∷ [])
      ≡ name ∷ backslash ∷ White ∷ word ∷ []
  -- continued lines of a C part: the backslash and the line end are taken out, and so is white space between them
  pub continued : read_tokens texts false (name ∷ backslash ∷ White ∷ LineEnd 0 ∷ word ∷ []) ≡ name ∷ word ∷ []
  -- white space before the backslash or after the line end keeps the two items apart
  pub continued_apart : read_tokens texts false (name ∷ White ∷ backslash ∷ LineEnd 0 ∷ White ∷ word ∷ [])
      ≡ name ∷ White ∷ White ∷ word ∷ []
  -- verbatim text is read, and the line end after it is taken out
  pub continued_verbatim : read_tokens texts false (verbatim ∷ LineEnd 0 ∷ LineEnd 1 ∷ word ∷ [])
      ≡ verbatim ∷ LineEnd 1 ∷ word ∷ []
  -- a backslash that is not before a line end is an item
  pub other_backslash : read_tokens texts false (backslash ∷ White ∷ word ∷ []) ≡ backslash ∷ White ∷ word ∷ []
  -- A macro whose text is on the line after its name: a blank keeps the two apart.
  pub written_macro :
      macro_bytes texts (unmarked_items (macro_blanks texts true None false (name ∷ LineEnd 0 ∷ word ∷ [])))
      ≡ codes "#define hex \\\nif\n"
  -- A backslash of the author's before a line end is dropped, also with white space between the two, and the line end keeps
  -- apart what is before and after them. Of two backslashes only the one before the line end is dropped, and a backslash
  -- that is not before a line end is kept.
  pub dropped_backslash : without_backslashes texts (name ∷ backslash ∷ White ∷ LineEnd 0 ∷ word ∷ [])
      ≡ name ∷ White ∷ LineEnd 0 ∷ word ∷ []
  pub kept_backslashes :
      without_backslashes texts (backslash ∷ backslash ∷ LineEnd 0 ∷ backslash ∷ White ∷ word ∷ [])
      ≡ backslash ∷ LineEnd 0 ∷ backslash ∷ White ∷ word ∷ []
  pub written_backslash : macro_bytes texts (macro_items texts (name ∷ backslash ∷ White ∷ LineEnd 0 ∷ word ∷ []))
      ≡ codes "#define hex \\\nif\n"
  -- two words in a macro that only a line end keeps apart: a blank is needed
  pub words_joined : Fits false (space ∷ []) name (TakenOut ∷ []) word → ⊥
  pub words_apart : Fits false (space ∷ []) name (Space ∷ TakenOut ∷ []) word
  -- between two that a join puts together nothing may be
  pub words_parted : Fits false [] name (Space ∷ []) word → ⊥
  -- `hex (` for `hex(`, and `- >` for `->`
  pub name_parted : Fits true [] name (Space ∷ []) parenthesis → ⊥
  pub arrow_parted : Fits false [] (from_to span_kind.Sign 11 12) (Space ∷ []) (from_to span_kind.Sign 12 13) → ⊥
  -- a macro without arguments whose text begins with a parenthesis: its name needs a blank, and another word does not
  pub name_joined : Fits true (space ∷ []) name (TakenOut ∷ []) parenthesis → ⊥
  -- a line end of the author's is read as one, and no other is
  pub line_lost : Fits false (line_feed ∷ []) name (Space ∷ []) word → ⊥
  pub line_added : Fits false (space ∷ []) name (LineFeed ∷ []) word → ⊥
  pub line_marked : Fits false (line_feed ∷ []) name (mark ∷ []) word
  -- after verbatim text that ends in a backslash a line end is taken out, so white space is needed after the line end, and
  -- a mark would be read as a part of the line
  pub verbatim_joined : Fits false (space ∷ []) verbatim (LineFeed ∷ []) word → ⊥
  pub verbatim_marked : Fits false (line_feed ∷ []) verbatim (mark ∷ []) word → ⊥
  -- the line feed that ends a macro is not taken out
  pub no_line_feed_left : EndsMacro texts (Some name) [] (codes "\\\n") → ⊥
  pub no_line_feed : EndsMacro texts (Some name) [] [] → ⊥
  pub ends_in_sign : EndsMacro texts (Some backslash) [] (codes "\n") → ⊥
  -- a backslash at the end of a verbatim text is written, since the author wrote it for the compiler
  pub ends_in_verbatim : EndsMacro texts (Some verbatim) [] (codes "\n")
  -- The end of a piece: `//*:2*/` is refused after a slash, with and without a line end that is taken out, and so is the
  -- closing mark on a continued line.
  pub ends_in_slash : Ends slash [] → ⊥

no-gap : (gap : List Gap) → [] ≡ gap_bytes (λ origin. codes "#") gap → gap ≡ []
no-gap [] is = refl
no-gap (x ∷ gap) is = grind arith

examples : Examples
examples = grind (arith, nat_tests, no-gap)

ends_after_slash : Ends slash (codes " ")
ends_after_slash = record { gap = Space ∷ []; is = refl; lines = refl; closing = λ none. absurd cc }

ends_in_word : Ends word []
ends_in_word = record { gap = []; is = refl; lines = refl; closing = λ none. (refl, refl) }

-- A whole macro.
accepted : IsMacroReadAsMeant texts (name ∷ parenthesis ∷ LineEnd 0 ∷ word ∷ []) (codes "#define hex(\\\nif\n")
accepted = macro-as-meant texts (name ∷ parenthesis ∷ LineEnd 0 ∷ word ∷ [])
