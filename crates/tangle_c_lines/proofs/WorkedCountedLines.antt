-- A web with a group, whose first directive has a use after it on its line: its directives are seen. One with `%:endif`, whose
-- directives are not.
use Rattle.std.proofs.Common.{rules, arith, ◌≡◌, ℕ, Bool, true, false, List, [], ◌∷◌, ◌++◌, codes, replicate, refl, ap, sym, subst}
use Rattle.std.specs.List.{AllByRecursion, list_all}
use Rattle.std.specs.Prelude.{◌&&◌, ◌||◌, not}
use Rattle.std.specs.Fmt.{digits}
use Rattle.std.proofs.lemmas.Bool.{and_parts, false≢true, not-true}
use Rattle.std.proofs.lemmas.Bool.Decides.{nat_tests}
use Rattle.c_lines.specs.Counting.{LineOfTokens, start_of_text, begins_group, directive, turns_group}
use Rattle.c_tokens.specs.Grammar.{is_element, is_token, is_punctuator}
use Rattle.c_lines.specs.JoinedLines.{LinesAreWhole, joined_lines, lines_of_each}
use Rattle.c_lines.proofs.LineLemmas.{each_line}
use Rattle.tangle_lines.specs.Reading.{SourceRead}
use Rattle.tangle_lexer.specs.Steps.{lexeme, occurrences_from, tokens_from}
use Rattle.tangle_scan.specs.Directives.{Border, SameRegion, GroupBegins, GroupTurns}
use Rattle.tangle_bodies.specs.Shapes.{Program}
use Rattle.tangle_expansion.specs.Limits.{levels}
use Rattle.tangle_expansion.specs.Location.{ByteClass, OfItem, LineFeed, Other}
use Rattle.tangle_c_lines.specs.CountedLines.{bytes_of_file, classes_of_file, no_class, DirectivesAreSeen, IsSeen}
use Rattle.tangle_c_lines.specs.CountedLines.{class_of_byte, classes_of_line, is_between_regions, is_of_item, last_border, place_of_first, sets_line}
use Rattle.tangle_c_tokens.proofs.WorkedFiles as files

abbrev source_of : List (List ℕ) → SourceRead
source_of web = record { files = (codes "a.w", web) ∷ []; lines = files.lines_from 1 web; faults = [] }

abbrev source : SourceRead
source = source_of (codes "@ @c" ∷ codes "#if 0@<u@>" ∷ codes "x" ∷ codes "#endif" ∷ codes "@ @<u@>=" ∷ codes "y" ∷ [])

abbrev pub written : List ℕ
written =
    codes "/*1:*/\n#line 1 \"a.w\"\n\n#if 0 /*2:*/\n#line 5 \"a.w\"\n\ny\n/*:2*/\n#line 2 \"a.w\"\n\nx\n#endif\n#line 5 \"a.w\"\n/*:1*/\n"

bytes : bytes_of_file source false true Program ≡ written
unfolding lexeme tokens_from occurrences_from digits levels
bytes = refl

abbrev of_item : ℕ → ℕ → List ByteClass
of_item line n = replicate n (OfItem (record { file = 0; line = line }) false)

abbrev of_none : ℕ → List ByteClass
of_none n = replicate n no_class

abbrev of_bytes : List ByteClass
of_bytes =
    of_none 21 ++ LineFeed SameRegion ∷ of_item 2 3 ++ of_none 1 ++ of_item 2 1
    ++ Other GroupBegins ∷ of_none 6 ++ of_none 15 ++ LineFeed SameRegion ∷ of_item 6 1 ++ LineFeed SameRegion ∷ of_none 6
    ++ of_none 15 ++ LineFeed SameRegion ∷ of_item 3 1 ++ LineFeed SameRegion ∷ of_item 4 6 ++ Other GroupTurns ∷ of_none 21

classes : classes_of_file source false true Program ≡ of_bytes
unfolding lexeme tokens_from occurrences_from digits levels
classes = refl

-- each line of C of these bytes is read by itself
whole : LinesAreWhole written
unfolding is_element is_token is_punctuator
whole = (refl, (refl, (refl, (refl, (refl, (refl, (refl, (refl, (refl, (refl, (refl, (refl, (refl, (refl, (refl, tt)))))))))))))))

-- whether a line is seen, as a test
abbrev is_turn : Border → Bool
is_turn GroupTurns = true
is_turn border = false

abbrev is_seen : List ByteClass → LineOfTokens → Bool
is_seen classes line =
    let words : List (List ℕ) = directive line.tokens in
    let border : Border = last_border (classes_of_line classes line) in
    (not (begins_group words) || is_between_regions border) && (not (turns_group words) || is_turn border)
    && (not (sets_line words) || not (is_of_item (class_of_byte classes (place_of_first line.tokens).at)))

implied : (b c : Bool) → (not b || c) ≡ true → b ≡ true → c ≡ true
implied b c h is = grind (arith, nat_tests)

all-seen : (classes : List ByteClass) (ls : List LineOfTokens) → list_all (is_seen classes) ls ≡ true
    → AllByRecursion (IsSeen classes) ls
all-seen classes [] h = tt
all-seen classes (line ∷ ls) h = search (rules, and_parts, implied, false≢true, not-true, all-seen classes ls)

each-seen : AllByRecursion (IsSeen of_bytes) (lines_of_each start_of_text (joined_lines [] written))
unfolding is_element is_token is_punctuator
each-seen = all-seen of_bytes (lines_of_each start_of_text (joined_lines [] written)) refl

-- the directives of the file are seen
seen : DirectivesAreSeen (classes_of_file source false true Program) (bytes_of_file source false true Program)
seen =
    rw classes (rw bytes (subst (AllByRecursion (IsSeen of_bytes)) (sym (each_line start_of_text written whole)) each-seen))

-- a directive that C sees alone

abbrev other_source : SourceRead
other_source = source_of (codes "@ @c" ∷ codes "#if 0" ∷ codes "x" ∷ codes "%:endif" ∷ codes "y" ∷ [])

abbrev other_written : List ℕ
other_written = codes "/*1:*/\n#line 1 \"a.w\"\n\n#if 0\nx\n%:endif\ny\n/*:1*/\n"

abbrev of_other_bytes : List ByteClass
of_other_bytes =
    of_none 21 ++ LineFeed SameRegion ∷ of_item 2 3 ++ of_none 1 ++ of_item 2 1 ++ LineFeed GroupBegins
    ∷ of_item 3 1 ++ LineFeed SameRegion ∷ of_item 4 7 ++ LineFeed SameRegion ∷ of_item 5 1 ++ LineFeed SameRegion ∷ of_none 7

other_bytes : bytes_of_file other_source false true Program ≡ other_written
unfolding lexeme tokens_from occurrences_from digits levels
other_bytes = refl

other_classes : classes_of_file other_source false true Program ≡ of_other_bytes
unfolding lexeme tokens_from occurrences_from digits levels
other_classes = refl

other_whole : LinesAreWhole other_written
unfolding is_element is_token is_punctuator
other_whole = (refl, (refl, (refl, (refl, (refl, (refl, (refl, (refl, (refl, tt)))))))))

each-hidden : AllByRecursion (IsSeen of_other_bytes) (lines_of_each start_of_text (joined_lines [] other_written)) → ⊥
unfolding is_element is_token is_punctuator
each-hidden h = false≢true (ap is_between_regions (h.1.1.1.1.1.0.turns refl))

-- the directives of the file are not all seen
hidden : DirectivesAreSeen (classes_of_file other_source false true Program) (bytes_of_file other_source false true Program) → ⊥
hidden h =
    each-hidden (subst (AllByRecursion (IsSeen of_other_bytes)) (each_line start_of_text other_written other_whole)
    (rw other_bytes at (rw other_classes at h)))
