-- Worked webs: the pieces, macros, occurrences and faults of each.
use Rattle.std.specs.Prelude.{◌≡◌, refl, ℕ, ◌+◌, List, [], ◌∷◌, ◌++◌, map, flat_map, codes, take, replicate}
use Rattle.std.specs.Prelude.{if◌then◌else◌, Bool, true, false, decimal}
use Rattle.std.specs.Fmt.{digits}
use Rattle.tangle_files.specs.Lines.{raw_lines}
use Rattle.tangle_faults.specs.declared.faults.FaultKind.{FaultKind}
use Rattle.tangle_faults.specs.declared.faults.FaultKind.TheVariants as fault
use Rattle.tangle_faults.specs.Faults.{FaultRead, fault_at}
use Rattle.tangle_lines.specs.declared.origin.Origin.{Origin}
use Rattle.tangle_lines.specs.Reading.{SourceLine}
use Rattle.tangle_text.specs.declared.spans.Span.{Span}
use Rattle.tangle_scan.specs.declared.items.Item.{Item}
use Rattle.tangle_scan.specs.declared.items.Item.TheVariants as item
use Rattle.tangle_lexer.specs.declared.occurrences.OccurrenceRole.{OccurrenceRole}
use Rattle.tangle_lexer.specs.declared.occurrences.OccurrenceRole.TheVariants as role
use Rattle.tangle_lexer.specs.Steps.{lexeme, tokens_from, occurrences_from}
use Rattle.tangle_lexer.specs.Segments.{all_segments}
use Rattle.tangle_lexer.specs.Segments.SegmentKind.{Kept, SecondAtSign, LineEnd, WhiteSpace, Comment, ControlText}
use Rattle.tangle_lexer.specs.Segments.SegmentKind.{ControlBytes, SectionName, AsciiConstant, Outside}
use Rattle.tangle_scan.specs.ItemBytes.{bytes_in}
use Rattle.tangle_scan.specs.Web.{WebRead, web_of}

abbrev origin : ℕ → Origin
origin line = record { file = 0; line = line }

abbrev lines_from : ℕ → List (List ℕ) → List SourceLine
lines_from n [] = []
lines_from n (l ∷ ls) = record { bytes = l; origin = origin n; changed = false } ∷ lines_from (n + 1) ls

-- the source lines of this text of a.w, and its web

abbrev source : List ℕ → List SourceLine
source text = lines_from 1 (raw_lines text)

abbrev web : List ℕ → WebRead
web text = web_of (record { files = (codes "a.w", raw_lines text) ∷ []; lines = source text; faults = [] })

-- a fault on a line of a.w
abbrev on : FaultKind → ℕ → FaultRead
on kind n = fault_at kind (record { file = codes "a.w"; line = n })

-- an item as bytes: a mark as # and its line, a use as the number of its occurrence, the macros as H
abbrev item_shown : List (List ℕ) → Item → List ℕ
item_shown texts (item.LineMark p) = codes "\n#" ++ decimal p.line ++ codes "\n"
item_shown texts (item.UseOf n) = codes "<" ++ decimal n ++ codes ">"
item_shown texts item.AllMacros = codes "H"
item_shown texts x = bytes_in texts x

-- What the examples show of a web, as bytes: its pieces, each with its section and the line of its opening mark; its
-- macros, after @d; the texts of its occurrences, after @<; the number of its sections, with H if a piece has @h. And its
-- faults.
abbrev shown : List ℕ → List ℕ × List FaultRead
shown text =
    let w : WebRead = web text in
    let items : List Item → List ℕ = flat_map (item_shown w.texts) in (
      flat_map (λ p. decimal p.section ++ codes ":" ++ decimal p.origin.line ++ items p.items ++ codes "\n") w.pieces
          ++ flat_map (λ m. codes "@d " ++ items m ++ codes "\n") w.macros
          ++ flat_map (λ o. codes "@<" ++ o.text ++ codes "\n") w.occurrences
          ++ decimal w.sections ++ (if w.has_all_macros then codes "H" else []),
      w.faults,
    )

abbrev span : ℕ → ℕ → ℕ → Span
span line start end = record { line = line; start = start; end = end }

record Examples : Type 0 where
  -- control codes before the first section
  pub codes_in_limbo :
      shown (codes "a @@ @d b @q c @L @> @F\n@Q@C @ A.") ≡ (codes "1", on fault.LimboCode 1 ∷ on fault.LimboCode 2 ∷ [])
  -- names that end macros, of which one does not end and one is a definition
  pub names_in_macros : shown (codes "@ A.\n@d F a @<n@> b @<n@>\n@d G@<q\n@ B.\n@d H@<n@>=") ≡ (
    codes "2:5\n\n@d F a\n@d G\n@d H\n@<n\n@<n\n@<q\n@<n\n2",
    on fault.NameInMacro 2 ∷ on fault.NameEnd 4 ∷ on fault.NameInMacro 3 ∷ [],
  )
  -- heads with white space of each kind, and mentions before what is none
  pub white_space_in_heads :
      shown (codes "@ @<n@>@&= @<n@>@^x@,@>= @<n@>/*\n*/= @<n@>@^x@>=u\n@ @<n@> /*@=*/+@;@t y@@@> ==z")
      ≡ (codes "1:2u\n\n2:3z\n\n@<n\n@<n\n@<n\n@<n\n@<n\n2", [])
  -- an empty verbatim text, and one that ends in @@
  pub empty_verbatim : shown (codes "@ A.\n@c\na@=@>b@=x@@@>c") ≡ (codes "1:2\nabx@c\n\n1", [])
  -- octal, escaped and doubled constants, and one that is too large
  pub constants : shown (codes "@ A.\n@c\n@'\\101'@'\\n'@'@@'x@'\\400'")
      ≡ (codes "1:2\n65 10 64 x\n\n1", on fault.AsciiBad 3 ∷ [])
  -- #include with white space
  pub spaced_include : shown (codes "@ A.\n@c\n # include <a b@@c>\nx") ≡ (codes "1:2\n# include <a b@c>\nx\n\n1", [])
  -- a comment over several lines
  pub comment_over_lines : shown (codes "@ A.\n@c\na /* x\ny */ b") ≡ (codes "1:2\na\nb\n\n1", [])
  -- white space after the name of a macro
  pub macro_names : shown (codes "@ A.\n@d N@'a'\n@d M\"x\"\n@c") ≡ (codes "1:4\n\n@d N 97\n\n@d M \"x\"\n\n1", [])
  -- a name over two lines, with control codes in it, and a head with + and ==
  pub name_over_lines : shown (codes "@ A.\n@<a@@b@xc\n d @> + ==\nx@<a...@>y")
      ≡ (codes "1:3\nx<1>\n#4\ny\n\n@<a@b@xc d\n@<a...\n1", [])
  -- comments and control texts over lines in directives, and a comment over lines outside; a header name
  pub directives :
      shown (codes "@ A.\n@c\n#if a /* one\ntwo */ && b\n#define M a@^x\ny@> b \\\n  c\n#endif\nx /* c\nd */ y\n"
      ++ codes "#/* e\nf */include/* g\nh */<p\"q>\nz")
      ≡ (codes "1:2\n#if a && b\n#5\n#define M a b \\\n c\n#8\n#endif\n#9\nx\ny\n# include <p\"q>\n#14\nz\n\n1", [])
  -- a line of C that goes on after a backslash, and one from which a join removes line ends
  pub continued : shown (codes "@ A.\n@c\n#a \\\nb /*\n*/ c\nx \\\n# /*\n*/ y\n#d\n@&@t\n@> e")
      ≡ (codes "1:2\n#a \\\nb c\n#6\nx \\\n#\ny\n#de\n\n1", [])
  -- names and @h in directives: each ends its line of C
  pub uses_in_directives : shown (codes "@ A.\n@c\n#if 1 \\\n@<v@>=@<v@>\na @<v@> # @h @<v@>") ≡ (
    codes "1:2\n#if 1 \\\n<0>\n#4\n=<1>\n#4\n\na <2>\n#5\n # H\n#5\n <3>\n#5\n\n\n@<v\n@<v\n@<v\n@<v\n1H",
    on fault.UseInDirective 4 ∷ on fault.NameEquals 4 ∷ on fault.UseInDirective 5 ∷ [],
  )
  -- bytes past 127, a zero byte, and a tab and a carriage return at a line's end
  pub other_bytes : map (λ p. p.items) (web (codes "@ A.\n@c\n" ++ 99 ∷ 97 ∷ 102 ∷ 233 ∷ 0 ∷ 61 ∷ 49 ∷ 32 ∷ 9 ∷ 13 ∷ [])).pieces
      ≡ (item.LineEnd ∷ item.Word (span 2 0 4) ∷ item.Sign (span 2 4 5) ∷ item.Sign (span 2 5 6) ∷ item.Word (span 2 6 7)
      ∷ item.LineEnd ∷ []) ∷ []
  -- a quoted text over a line end is an item, a break and an item
  pub cut_texts : flat_map (λ p. take 8 p.items) (web (codes "@ A.\n@c\ns=\"a\\\nb\";@=u@@v@>\n#include <p@@q>")).pieces
      ≡ item.LineEnd ∷ item.Word (span 2 0 1) ∷ item.Sign (span 2 1 2) ∷ item.Quoted (span 2 2 5) ∷ item.QuoteBreak
      ∷ item.Quoted (span 3 0 2) ∷ item.Sign (span 3 2 3) ∷ item.Verbatim (span 3 5 7) ∷ []
  -- the occurrences of names: abbreviated or not, in which role, and where; an abbreviation begins two names
  pub abbreviated :
      map {B = List ℕ × Bool × Bool × OccurrenceRole × Origin} (λ o. (o.text, o.is_abbreviation, o.is_file, o.role, o.origin))
      (web (codes "@ A.\n@c\n@<Ini...@>\n@ @<Initialize@>=\nx=0;\n@ @<Init table@>=")).occurrences
      ≡ (codes "Ini...", true, false, role.Use, origin 3)
      ∷ (codes "Initialize", false, false, role.Definition, origin 4)
      ∷ (codes "Init table", false, false, role.Definition, origin 6) ∷ []
  -- what becomes of each byte and line end of a text
  pub kinds_of_bytes : flat_map (λ s. map (λ c. s.kind) s.cells)
      (all_segments (source (codes "@ A.\n@c a@@b/*c*/ \"x@@y\"\n@<N@>@'x'@^i@>@=v@>")))
      ≡ replicate 7 Outside ++ WhiteSpace ∷ Kept ∷ Kept ∷ SecondAtSign ∷ Kept ∷ replicate 5 Comment
      ++ WhiteSpace ∷ Kept ∷ Kept ∷ Kept ∷ SecondAtSign ∷ Kept ∷ Kept ∷ LineEnd ∷ replicate 5 SectionName
      ++ replicate 4 AsciiConstant ++ replicate 5 ControlText ++ ControlBytes ∷ ControlBytes ∷ Kept ∷ ControlBytes
      ∷ ControlBytes ∷ LineEnd ∷ []

examples : Examples
unfolding lexeme tokens_from occurrences_from digits
examples = search refl
