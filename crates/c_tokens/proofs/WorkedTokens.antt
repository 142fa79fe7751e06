-- Texts and their tokens, typed from the standard.
use Rattle.std.proofs.Common.{rules, ◌≡◌, ℕ, true, List, [], ◌∷◌, ◌++◌, codes}
use Rattle.std.specs.Prelude.{◌==◌, if◌then◌else◌}
use Prim.Native.String.{String}
use Rattle.c_tokens.specs.Bytes.{space}
use Rattle.c_tokens.specs.Grammar.{is_element, is_token, is_punctuator}
use Rattle.c_tokens.specs.Reading.{tokens}
use Rattle.c_tokens.specs.Borders.{are_all_apart}

-- the words between the spaces of a text
abbrev words_after : List ℕ → List ℕ → List (List ℕ)
words_after [] [] = []
words_after word [] = word ∷ []
words_after word (b ∷ bs) = if b == space then word ∷ words_after [] bs else words_after (word ++ b ∷ []) bs

-- the tokens of the first text are the words of the second
abbrev HasTokens : String → String → Type 0
HasTokens text words = tokens (codes text) ≡ words_after [] (codes words)

-- Pairs that may not touch: the tokens of both written together, and those of each by itself.
abbrev AreReadOtherwise : String → String → String → String → Type 0
AreReadOtherwise a b together apart =
    (tokens (codes a ++ codes b) ≡ words_after [] (codes together)) ×
    (tokens (codes a) ++ tokens (codes b) ≡ words_after [] (codes apart))

worked :
    -- Identifiers.
    HasTokens "while(x)" "while ( x )" ×
    HasTokens "a1_b" "a1_b" ×
    HasTokens "a$b" "a$b" ×
    HasTokens "\\u00e9t" "\\u00e9t" ×
    HasTokens "a\\U0001F600b" "a\\U0001F600b" ×
    HasTokens "a\\u00e" "a \\ u00e" ×
    HasTokens "\\U000000e" "\\ U000000e" ×
    HasTokens "a@b`" "a @ b `" ×
    -- Numbers, which are not yet constants.
    HasTokens "1e+5" "1e+5" ×
    HasTokens "0x1.8p-3" "0x1.8p-3" ×
    HasTokens "1E-2f" "1E-2f" ×
    HasTokens ".5" ".5" ×
    HasTokens "..5" ". .5" ×
    HasTokens "1..2" "1..2" ×
    HasTokens "1.5.x_$" "1.5.x_$" ×
    HasTokens "1+2" "1 + 2" ×
    HasTokens "0xe+1" "0xe+1" ×
    HasTokens "1p+" "1p+" ×
    HasTokens "1e+5.x-.5" "1e+5.x - .5" ×
    HasTokens "1.e +5" "1.e + 5" ×
    HasTokens "1e++" "1e+ +" ×
    HasTokens "x1e+5" "x1e + 5" ×
    HasTokens "1\\u00b2x" "1\\u00b2x" ×
    -- Apostrophes that separate the digits and nondigits of a number, and others.
    HasTokens "10'000" "10'000" ×
    HasTokens "0xF'F" "0xF'F" ×
    HasTokens "1'0'e" "1'0'e" ×
    HasTokens "1'_" "1'_" ×
    HasTokens ".5'0" ".5'0" ×
    HasTokens "1.'5" "1.'5" ×
    HasTokens "0x1.F'Fp0" "0x1.F'Fp0" ×
    HasTokens "1'e+5" "1'e + 5" ×
    HasTokens "1e+'5" "1e+'5" ×
    HasTokens "12L'x'" "12L'x '" ×
    HasTokens "4'" "4 '" ×
    HasTokens "1''" "1 ' '" ×
    HasTokens "1''2" "1 ' ' 2" ×
    HasTokens "1'.5" "1 ' .5" ×
    HasTokens "1'+'" "1 '+'" ×
    HasTokens "1'\\u00e9" "1 ' \\u00e9" ×
    HasTokens "1'2'3'" "1'2'3 '" ×
    HasTokens "x1'2'" "x1 '2'" ×
    HasTokens "1 '2'" "1 '2'" ×
    HasTokens "1'\\\n0" "1'0" ×
    -- Character constants.
    HasTokens "L'x'" "L'x'" ×
    HasTokens "u'x'U'y'" "u'x' U'y'" ×
    HasTokens "u8'x'" "u8'x'" ×
    HasTokens "LL'x'" "LL 'x'" ×
    HasTokens "'\\''" "'\\''" ×
    HasTokens "'\\\\'a" "'\\\\' a" ×
    HasTokens "'\"'\"'\"" "'\"' \"'\"" ×
    HasTokens "'a'b" "'a' b" ×
    -- String literals.
    HasTokens "u8\"s\"" "u8\"s\"" ×
    HasTokens "u\"s\"U\"s\"" "u\"s\" U\"s\"" ×
    HasTokens "L\"\"" "L\"\"" ×
    HasTokens "x\"s\"" "x \"s\"" ×
    HasTokens "\"a\\\"b\"" "\"a\\\"b\"" ×
    HasTokens "\"a\"\"b\"" "\"a\" \"b\"" ×
    HasTokens "\"/*\"*/" "\"/*\" * /" ×
    HasTokens "\"\\x41\\101\"" "\"\\x41\\101\"" ×
    -- Punctuators, each as long as it can be.
    HasTokens "a+++b" "a ++ + b" ×
    HasTokens "a---b" "a -- - b" ×
    HasTokens "..." "..." ×
    HasTokens ".." ". ." ×
    HasTokens "...." "... ." ×
    HasTokens "<<<=" "<< <=" ×
    HasTokens ">>=>" ">>= >" ×
    HasTokens "->*" "-> *" ×
    HasTokens "&&&" "&& &" ×
    HasTokens "|||" "|| |" ×
    HasTokens "###" "## #" ×
    HasTokens "!==" "!= =" ×
    HasTokens "-->" "-- >" ×
    HasTokens "[](){};,~" "[ ] ( ) { } ; , ~" ×
    HasTokens "a?b:c" "a ? b : c" ×
    HasTokens "a:::b" "a :: : b" ×
    -- Digraphs.
    HasTokens "%:%:" "%:%:" ×
    HasTokens "%:%" "%: %" ×
    HasTokens "%:%:%:" "%:%: %:" ×
    HasTokens "<:" "<:" ×
    HasTokens "<::>" "<: :>" ×
    HasTokens "<::" "<: :" ×
    HasTokens "<%%>" "<% %>" ×
    HasTokens "%>=" "%> =" ×
    HasTokens "%=:" "%= :" ×
    HasTokens "<<=%:%:->=>" "<<= %:%: -> = >" ×
    -- Comments.
    HasTokens "a/**/b" "a b" ×
    HasTokens "a/*/b*/c" "a c" ×
    HasTokens "a//b" "a" ×
    HasTokens "a//b\nc" "a c" ×
    HasTokens "a/ /b" "a / / b" ×
    HasTokens "//*x\n*/y" "* / y" ×
    HasTokens "a/* // */b" "a b" ×
    HasTokens "a/=b" "a /= b" ×
    HasTokens "a/*b**/*c" "a * c" ×
    HasTokens "a/*'*/b" "a b" ×
    -- Backslashes with a line feed after them, and white space.
    HasTokens "els\\\ne" "else" ×
    HasTokens "a\\\n+\\\n+b" "a ++ b" ×
    HasTokens "a/\\\n/b\nc" "a c" ×
    HasTokens "a\\ \nb" "a \\ b" ×
    HasTokens "\"a\\\nb\"" "\"ab\"" ×
    HasTokens "1e\\\n+5" "1e+5" ×
    HasTokens "a\tb\nc" "a b c" ×
    -- Texts without tokens.
    (tokens (codes "") ≡ []) ×
    (tokens (codes "/**/") ≡ []) ×
    (tokens (codes "//x") ≡ []) ×
    (tokens (codes "/*x") ≡ []) ×
    (tokens (codes "/*x\ny*/") ≡ []) ×
    (tokens (codes " \n\t") ≡ []) ×
    (tokens (codes "//x\\\ny") ≡ []) ×
    (tokens (codes "/\\\n*x*/") ≡ []) ×
    -- A letter past 127, in UTF-8.
    (tokens (195 ∷ 169 ∷ 43 ∷ 43 ∷ []) ≡ (195 ∷ 169 ∷ []) ∷ codes "++" ∷ []) ×
    -- Pairs that may not touch: two operators.
    AreReadOtherwise "+" "+" "++" "+ +" ×
    AreReadOtherwise "-" ">" "->" "- >" ×
    AreReadOtherwise "/" "*" "" "/ *" ×
    AreReadOtherwise "/" "/" "" "/ /" ×
    AreReadOtherwise "<" ":" "<:" "< :" ×
    AreReadOtherwise "%" ":" "%:" "% :" ×
    AreReadOtherwise "#" "#" "##" "# #" ×
    AreReadOtherwise ":" ":" "::" ": :" ×
    AreReadOtherwise "=" "=" "==" "= =" ×
    -- Two plain texts.
    AreReadOtherwise "a" "b" "ab" "a b" ×
    AreReadOtherwise "L" "\"x\"" "L\"x\"" "L \"x\"" ×
    AreReadOtherwise "u8" "'x'" "u8'x'" "u8 'x'" ×
    AreReadOtherwise "u8" "\"x\"" "u8\"x\"" "u8 \"x\"" ×
    AreReadOtherwise "U" "'x'" "U'x'" "U 'x'" ×
    -- Numbers, other signs and other texts.
    AreReadOtherwise "a" "1" "a1" "a 1" ×
    AreReadOtherwise "1" "a" "1a" "1 a" ×
    AreReadOtherwise "1" "2" "12" "1 2" ×
    AreReadOtherwise "1e" "+" "1e+" "1e +" ×
    AreReadOtherwise "8" "'9'" "8'9 '" "8 '9'" ×
    AreReadOtherwise "0xe" "-" "0xe-" "0xe -" ×
    AreReadOtherwise "1" ".5" "1.5" "1 .5" ×
    AreReadOtherwise "." "5" ".5" ". 5" ×
    AreReadOtherwise ".." "." "..." ". . ." ×
    AreReadOtherwise "\\" "u00e9" "\\u00e9" "\\ u00e9" ×
    AreReadOtherwise "+" "+=" "++ =" "+ +=" ×
    AreReadOtherwise "a'" "b'" "a 'b'" "a ' b '" ×
    -- A text that opens a comment, before a separator.
    AreReadOtherwise "a//" "(" "a" "a (" ×
    AreReadOtherwise "a/*b" "(" "a" "a (" ×
    -- Texts of several tokens: a quote that none closes, numbers, two slashes, and a backslash before a line feed.
    AreReadOtherwise "x\"a" ";\"y" "x \"a;\" y" "x \" a ; \" y" ×
    AreReadOtherwise "1.e" "+5" "1.e+5" "1.e + 5" ×
    AreReadOtherwise "1e+" "x" "1e+x" "1e+ x" ×
    AreReadOtherwise "1e+" "'x'" "1e+'x '" "1e+ 'x'" ×
    AreReadOtherwise "a/" "/**/b" "a" "a / b" ×
    AreReadOtherwise "a\\" "\nb" "ab" "a \\ b" ×
    -- A macro over two lines, as texts in a row.
    (are_all_apart
    (codes "#define F(x)" ∷ codes " " ∷ codes "a+\\\n" ∷ codes "\"s\"" ∷ codes "/*1*/" ∷ codes "-1;" ∷ codes "\n" ∷ []) ≡ true)
unfolding is_element is_token is_punctuator
worked = search rules
