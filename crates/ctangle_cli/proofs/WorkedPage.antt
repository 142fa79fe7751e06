-- A worked page: a web of 21 lines, its output files, and what a C compiler reads of each, typed from the rules and the
-- standard. Each token is at the line on which its author wrote it, whichever of two regions the compiler reads.
use Rattle.std.proofs.Common.{◌≡◌, ℕ, Bool, true, false, List, [], ◌∷◌, ◌++◌, map, codes, refl, sym, subst}
use Rattle.std.specs.Prelude.{◌&&◌, decimal, filter, not, None}
use Rattle.std.specs.Str.{bytes_eq}
use Rattle.std.specs.List.{join_with_byte}
use Rattle.std.specs.Fmt.{digits}
use Rattle.c_tokens.specs.Bytes.{space, line_feed}
use Rattle.c_tokens.specs.Grammar.{is_element, is_token, is_punctuator}
use Rattle.c_lines.specs.Counting.{LineOfTokens, lines_from, reads, start_of_text}
use Rattle.c_tokens.specs.Borders.{is_whole}
use Rattle.c_lines.proofs.LineLemmas.{each_line}
use Rattle.c_lines.specs.JoinedLines.{lines_of_each}
use Rattle.std.specs.List.{AllByRecursion}
use Rattle.std.proofs.Common.{rules}
use Rattle.tangle_files.specs.Lines.{cut}
use Rattle.tangle_files.specs.Roles.{roles_of}
use Rattle.tangle_lines.specs.Reading.{reads_in}
use Rattle.tangle_lexer.specs.Steps.{tokens_from, lexeme, occurrences_from}
use Rattle.tangle_expansion.specs.Limits.{levels, heaviest}
use Rattle.tangle_graph.specs.PlainForms.{plain_form}
use Rattle.tangle_session.specs.Headline.{output_files, source_at, web_at}

abbrev web : List ℕ
web =
    codes "\\def\\x{y}\n@ A program.\n@d most 10\n@c\n@h\nint main(void)\n{\n  @<Greet@>;\n#ifdef DEBUG\n  puts(\"a\\\nb\");\n"
    ++ codes "#else\n  return most;\n#endif\n}\n@ Its word.\n@<Greet@>=\nputs(\"hi\"); /* a comment */\n"
    ++ codes "@ A header.\n@(a.h@>=\nextern int n;\n"

abbrev program : List ℕ
program =
    codes "/*1:*/\n#line 4 \"a.w\"\n\n\n#define most 10\n\n#line 5 \"a.w\"\n\nint main(void)\n{\n /*2:*/\n#line 17 \"a.w\"\n\n"
    ++ codes "puts(\"hi\");\n/*:2*/\n#line 8 \"a.w\"\n;\n#ifdef DEBUG\nputs(\"a\\\nb\");\n#else\n#line 13 \"a.w\"\n"
    ++ codes "return most;\n#endif\n#line 15 \"a.w\"\n}\n/*:1*/\n"

abbrev header : List ℕ
header = codes "/*3:*/\n#line 20 \"a.w\"\n\nextern int n;\n/*:3*/\n"

-- the output files of the web
made : output_files ((codes "a.w", cut web) ∷ []) (roles_of (codes "a.w") None (codes "a.c"))
    ≡ (codes "a.c", program) ∷ (codes "a.h", header) ∷ []
unfolding source_at web_at reads_in tokens_from lexeme occurrences_from levels heaviest plain_form digits
made = refl

-- the lines of both files as a compiler joins them; the string literal over two lines is in one
abbrev program_lines : List (List ℕ)
program_lines =
    codes "/*1:*/" ∷ codes "#line 4 \"a.w\"" ∷ [] ∷ [] ∷ codes "#define most 10" ∷ [] ∷ codes "#line 5 \"a.w\"" ∷ []
    ∷ codes "int main(void)" ∷ codes "{" ∷ codes " /*2:*/" ∷ codes "#line 17 \"a.w\"" ∷ [] ∷ codes "puts(\"hi\");"
    ∷ codes "/*:2*/" ∷ codes "#line 8 \"a.w\"" ∷ codes ";" ∷ codes "#ifdef DEBUG" ∷ codes "puts(\"a\\\nb\");"
    ∷ codes "#else" ∷ codes "#line 13 \"a.w\"" ∷ codes "return most;" ∷ codes "#endif" ∷ codes "#line 15 \"a.w\""
    ∷ codes "}" ∷ codes "/*:1*/" ∷ [] ∷ []

abbrev header_lines : List (List ℕ)
header_lines =
    codes "/*3:*/" ∷ codes "#line 20 \"a.w\"" ∷ [] ∷ codes "extern int n;" ∷ codes "/*:3*/" ∷ [] ∷ []

abbrev AreWhole : List (List ℕ) → Type 0
AreWhole lines = AllByRecursion (λ line. is_whole line ≡ true) lines

whole : AreWhole program_lines × AreWhole header_lines
unfolding is_element is_token is_punctuator
whole = search rules

-- what is read of these lines for a choice of regions, directives aside: each token of a.w after the number of its line
abbrev shown : List Bool → List ℕ → List LineOfTokens → List ℕ
shown choices name lines =
    join_with_byte line_feed (map (λ read. decimal read.origin.line ++ space ∷ read.token)
    (filter (λ read. not read.in_directive && bytes_eq read.origin.file (codes "a.w"))
    (reads choices true (record { row = 0; origin = record { file = name; line = 1 } }) lines)))

-- the tokens before the group, in its two regions, and after it
abbrev before : List ℕ
before = codes "6 int\n6 main\n6 (\n6 void\n6 )\n7 {\n18 puts\n18 (\n18 \"hi\"\n18 )\n18 ;\n8 ;\n"

abbrev if_debug : List ℕ
if_debug = codes "10 puts\n10 (\n10 \"ab\"\n11 )\n11 ;\n"

abbrev if_not : List ℕ
if_not = codes "13 return\n13 most\n13 ;\n"

abbrev after : List ℕ
after = codes "15 }"

record PageIsRead (program_tokens header_tokens : List LineOfTokens) : Type 0 where
  pub both : shown [] (codes "a.c") program_tokens ≡ before ++ if_debug ++ if_not ++ after
  pub debug : shown (true ∷ false ∷ true ∷ []) (codes "a.c") program_tokens ≡ before ++ if_debug ++ after
  pub other : shown (false ∷ true ∷ true ∷ []) (codes "a.c") program_tokens ≡ before ++ if_not ++ after
  pub of_header : shown [] (codes "a.h") header_tokens ≡ codes "21 extern\n21 int\n21 n\n21 ;"

reads_of_lines : PageIsRead (lines_of_each start_of_text program_lines) (lines_of_each start_of_text header_lines)
unfolding is_element is_token is_punctuator digits
reads_of_lines = record { both = refl; debug = refl; other = refl; of_header = refl }

-- `c_reads` reads the lines of the bytes, each by itself, since no comment and no quoted text goes over its end
worked : PageIsRead (lines_from start_of_text program) (lines_from start_of_text header)
worked =
    subst (λ (both : List LineOfTokens × List LineOfTokens). PageIsRead both.0 both.1)
    (λ i. (sym (each_line start_of_text program whole.0) i, sym (each_line start_of_text header whole.1) i))
    reads_of_lines
