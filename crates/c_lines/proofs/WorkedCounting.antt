-- Texts, and at which file and line a C compiler counts their tokens, typed from the standard.
use Rattle.std.proofs.Common.{rules, ◌≡◌, ℕ, Bool, true, false, List, [], ◌∷◌, ◌++◌, map, codes, refl}
use Rattle.std.specs.Prelude.{decimal, filter, not}
use Rattle.std.specs.List.{join_with_byte}
use Rattle.std.specs.Fmt.{digits}
use Prim.Native.String.{String}
use Rattle.c_tokens.specs.Bytes.{space}
use Rattle.c_tokens.specs.Grammar.{is_element, is_token, is_punctuator}
use Rattle.c_lines.specs.Counting.{TokenRead, c_reads}

abbrev shown : TokenRead → List ℕ
shown read = read.token ++ space ∷ read.origin.file ++ space ∷ decimal read.origin.line

abbrev comma : ℕ
comma = 44

-- The second text shows the tokens that are read of the first one, those of directives aside, each with its file and
-- line. The file has the name a.c.
abbrev Counts : List Bool → String → String → Type 0
Counts choice text words =
    let found : List TokenRead = c_reads choice (codes "a.c") (codes text) in
    join_with_byte comma (map shown (filter (λ read. not read.in_directive) found)) ≡ codes words

-- The second text shows the tokens that are read of the first one, each after the number of bytes before it.
abbrev Begins : String → String → Type 0
Begins text words =
    let found : List TokenRead = c_reads [] (codes "a.c") (codes text) in
    join_with_byte comma (map (λ read. decimal read.at ++ space ∷ read.token) found) ≡ codes words

lines :
    -- A line's number is one more than the number of line feeds before it, also of those that are taken out.
    Counts [] "a\nb c\n" "a a.c 1,b a.c 2,c a.c 2" ×
    Counts [] "a" "a a.c 1" ×
    Counts [] "" "" ×
    Counts [] "a\\\nb c\nd" "ab a.c 1,c a.c 2,d a.c 3" ×
    Counts [] "a \\\n\\\n\\\nb\nc" "a a.c 1,b a.c 4,c a.c 5" ×
    Counts [] "\"s\\\nt\" a" "\"st\" a.c 1,a a.c 2" ×
    Counts [] "a\\ b\n\\\n c" "a a.c 1,\\ a.c 1,b a.c 1,c a.c 3" ×
    Counts [] "a /*\n\n*/ b\nc" "a a.c 1,b a.c 3,c a.c 4" ×
    Counts [] "// a \\\n b\nc" "c a.c 3" ×
    Counts [] "a\n#\n#define m x\\\n y\n#undef m /*\n*/\nb" "a a.c 1,b a.c 7" ×
    -- Bytes that are taken out are counted, too. A token with some in it begins before them, one after them begins
    -- there.
    Begins "a\nb c\n" "0 a,2 b,4 c" ×
    Begins " a+ b" "1 a,2 +,4 b" ×
    Begins "a\\\nb c\nd" "0 ab,5 c,7 d" ×
    Begins "a \\\n\\\nb" "0 a,6 b" ×
    Begins "\\\nb\\\n" "2 b" ×
    Begins "\"s\\\nt\" a" "0 \"st\",7 a" ×
    Begins "/*\\\n*/a" "6 a" ×
    Begins "#line 7\na" "0 #,1 line,6 7,8 a"
unfolding is_element is_token is_punctuator digits
lines = search rules

directives :
    -- `#line` says which number the line after it has, and of which file it is.
    Counts [] "#line 7 \"f\"\na\n\nb" "a f 7,b f 9" ×
    Counts [] "a\n#line 7\nb" "a a.c 1,b a.c 7" ×
    Counts [] "#line 7 \"f\"\na\n#line 3\nb\n#line 5 \"g\"\nc" "a f 7,b f 3,c g 5" ×
    Counts [] "#line 10 \"f\"\na\\\nb c" "ab f 10,c f 11" ×
    Counts [] "#line 7 \"f\"\na \\\nb\nc" "a f 7,b f 8,c f 9" ×
    Counts [] "#line 7 \\\n \"f\"\na" "a f 7" ×
    Counts [] "#li\\\nne 7 \"f\"\na" "a f 7" ×
    Counts [] "/*\n*/ # /* b\n */ line 7 \"f\" // c\na" "a f 7" ×
    Counts [] "%:line 7 \"f\"\na" "a f 7" ×
    Counts [] "#line 7 \"f\\\\g\\\"h\"\na" "a f\\g\"h 7" ×
    Counts [] "#line 7 \"f\"" "" ×
    Counts [] "#line 7 \"f\"\n#line 9 \"g\"\na" "a g 9" ×
    -- Text that is no `#line`.
    Counts [] "a #line 7 \"f\"\nb" "a a.c 1,# a.c 1,line a.c 1,7 a.c 1,\"f\" a.c 1,b a.c 2" ×
    Counts [] "a \\\n#line 7 \"f\"\nb" "a a.c 1,# a.c 2,line a.c 2,7 a.c 2,\"f\" a.c 2,b a.c 3" ×
    Counts [] "/*\n#line 7 \"f\"\n*/ a" "a a.c 3" ×
    Counts [] "#define m \\\n#line 7 \"f\"\na" "a a.c 3"
unfolding is_element is_token is_punctuator digits
directives = (refl, refl, refl, refl, refl, refl, refl, refl, refl, refl, refl, refl, refl, refl, refl, refl)

groups :
    -- Groups, of which a compiler leaves some out.
    Counts (true ∷ true ∷ []) "#if 1\na\n#endif\nb" "a a.c 2,b a.c 4" ×
    Counts (false ∷ true ∷ []) "#if 0\na\n#endif\nb" "b a.c 4" ×
    Counts (true ∷ false ∷ true ∷ []) "#if 1\na\n#else\nb\n#endif\nc" "a a.c 2,c a.c 6" ×
    Counts (false ∷ true ∷ false ∷ true ∷ []) "#ifdef m\na\n#elif 1\nb\n#else\nc\n#endif\nd" "b a.c 4,d a.c 8" ×
    Counts (false ∷ false ∷ false ∷ true ∷ []) "#if 0\n#ifndef m\na\n#endif\n#endif\nb" "b a.c 6" ×
    Counts (false ∷ true ∷ false ∷ true ∷ []) "#if 0\n#if 1\na\n#endif\n#endif\nb" "b a.c 6" ×
    Counts (false ∷ true ∷ []) "#if 0\n/*\n#endif\n*/ a \\\n#endif\n#endif\nb" "b a.c 7" ×
    -- `#line` in a group.
    Counts (true ∷ true ∷ []) "#if 1\n#line 7 \"f\"\na\n#endif\nb" "a f 7,b f 9" ×
    Counts (false ∷ true ∷ []) "#if 0\n#line 7 \"f\"\na\n#endif\nb" "b a.c 5" ×
    Counts (false ∷ true ∷ []) "#line 7 \"f\"\n#if 0\n#line 2 \"g\"\n#endif\na" "a f 10" ×
    Counts (false ∷ true ∷ true ∷ []) "#if 0\n#line 7 \"f\"\n#else\n#line 8 \"g\"\na\n#endif\nb" "a g 8,b g 10" ×
    Counts (false ∷ false ∷ false ∷ true ∷ []) "#if 0\n#if 1\n#line 7 \"f\"\n#endif\n#line 8 \"g\"\n#endif\na" "a a.c 7" ×
    -- The tokens of directives, too. That of a turn is read if the region before it is.
    (map shown (c_reads [] (codes "c") (codes "#line 7 \"f\"\n#define m \\\nx\ny"))
    ≡ codes "# c 1" ∷ codes "line c 1" ∷ codes "7 c 1" ∷ codes "\"f\" c 1" ∷ codes "# f 7" ∷ codes "define f 7"
    ∷ codes "m f 7" ∷ codes "x f 8" ∷ codes "y f 9" ∷ []) ×
    (map shown (c_reads (false ∷ true ∷ true ∷ []) (codes "c") (codes "#if 0\n#else\n#endif"))
    ≡ codes "# c 1" ∷ codes "if c 1" ∷ codes "0 c 1" ∷ codes "# c 3" ∷ codes "endif c 3" ∷ [])
unfolding is_element is_token is_punctuator digits
groups = (refl, refl, refl, refl, refl, refl, refl, refl, refl, refl, refl, refl, refl, refl)
