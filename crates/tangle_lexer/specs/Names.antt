-- Section names: @< or @( up to @>, perhaps on a later line.
use Rattle.std.specs.Prelude.{ℕ, ◌+◌, ◌-◌, Bool, false, true, not, List, [], ◌∷◌, ◌++◌, length}
use Rattle.std.specs.Prelude.{filter, drop, if◌then◌else◌, Option, Some, None, codes}
use Rattle.std.specs.List.{slice_split, join_with_byte}
use Rattle.std.specs.Str.{bytes_eq}
use Rattle.tangle_files.specs.Bytes.{space}
use Rattle.tangle_lines.specs.Bytes.{is_white}
use Rattle.tangle_faults.specs.declared.faults.FaultKind.TheVariants as fault
use Rattle.tangle_lexer.specs.declared.occurrences.OccurrenceRole.{OccurrenceRole}
use Rattle.tangle_lexer.specs.declared.occurrences.OccurrenceRole.TheVariants as role
use Rattle.tangle_lexer.specs.declared.names.Equals.{Equals}
use Rattle.tangle_lexer.specs.declared.names.Equals.TheVariants as equals
use Rattle.tangle_lexer.specs.declared.names.Name.{Name}
use Rattle.tangle_text.specs.declared.regions.Region.TheVariants as region
use Rattle.tangle_lexer.specs.declared.modes.Mode.{Mode}
use Rattle.tangle_lexer.specs.declared.modes.Mode.TheVariants as mode
use Rattle.tangle_lexer.specs.declared.modes.LexerState.{LexerState}
use Rattle.tangle_lexer.specs.declared.tokens.Token.{Token}
use Rattle.tangle_lexer.specs.declared.tokens.Token.TheVariants as token
use Rattle.tangle_text.specs.Bytes.{left_parenthesis, plus_sign, equals_sign, holds}
use Rattle.tangle_text.specs.Text.{Cell, byte_at, front_line}
use Rattle.tangle_text.specs.Regions.{count_before}
use Rattle.tangle_lexer.specs.LinesOfC.{after_use}
use Rattle.tangle_lexer.specs.Lexemes.{OccurrenceOnLine, Lexeme, fault_if, in_mode, with_line}
use Rattle.tangle_lexer.specs.Lexemes.{is_in_directive}
use Rattle.tangle_lexer.specs.Comments.{has_end_code, two_if}
use Rattle.tangle_lexer.specs.White.{white_count}
use Rattle.tangle_text.specs.NameBytes.{name_bytes}

-- the text of a name

-- the part of a name is not empty
abbrev pub has_bytes : List ℕ → Bool
has_bytes [] = false
has_bytes (b ∷ bs) = true

-- the words of a name: its parts between white space, without the empty ones
abbrev pub name_words : List ℕ → List (List ℕ)
name_words bytes = filter has_bytes (slice_split is_white bytes)

-- the words of a name, with one space between each two
abbrev pub normal_form : List ℕ → List ℕ
normal_form bytes = join_with_byte space (name_words bytes)

-- parts of which the first one goes on after these bytes
abbrev pub onto_part : List ℕ → List (List ℕ) → List (List ℕ)
onto_part bytes [] = bytes ∷ []
onto_part bytes (part ∷ parts) = (bytes ++ part) ∷ parts

-- The normal form of a name of which `rest` is still to be read: `name` is that of the bytes
-- before, and `white` is whether the last of them is white space.
unfoldable pub form_after : List ℕ → Bool → List ℕ → List ℕ
form_after name white rest =
    let parts : List (List ℕ) = slice_split is_white rest in
    join_with_byte space
    (filter has_bytes (if white then name ∷ parts else onto_part name parts))

-- the normal form of a name, where `text` begins after the opening of the name
abbrev pub name_text : List Cell → List ℕ
name_text text = normal_form (name_bytes text)

abbrev pub dots : List ℕ
dots = codes "..."

-- a name that ends in three dots is an abbreviation
abbrev pub is_abbreviation : List ℕ → Bool
is_abbreviation name = bytes_eq (drop (length name - 3) name) dots

-- where a name ends

-- the number of cells between the opening of the name at the front and its end
abbrev pub name_count : List Cell → ℕ
name_count text = count_before region.Name (drop 2 text)

-- the text from the end of the name on: from @>, or from what ends the name without @>
abbrev pub name_end : List Cell → List Cell
name_end text = drop (name_count text) (drop 2 text)

abbrev pub is_ended : List Cell → Bool
is_ended text = has_end_code (name_end text)

-- the number of cells of the name at the front after its first cell, with those of @>
abbrev pub name_more : List Cell → ℕ
name_more text = 1 + name_count text + two_if (is_ended text)

-- the text after the name
abbrev pub after_name : List Cell → List Cell
after_name text = drop (name_more text) (drop 1 text)

abbrev pub name_faults : ℕ → List Cell → List Token
name_faults last text =
    fault_if (not (is_ended text)) fault.NameEnd (front_line last (name_end text))

-- what makes a name a definition

-- The number of cells before the equals sign: of white space, and of + with white space after it.
-- White space is what C text has as such, as far as it ends on the line and without a fault.
abbrev pub count_before_equals : List Cell → ℕ
count_before_equals text =
    let first : ℕ = white_count 0 text in
    if holds plus_sign (byte_at first text)
    then first + 1 + white_count 0 (drop (first + 1) text)
    else first

-- the equals sign that these two cells begin with: none, = or ==
abbrev pub equals_by : Option ℕ → Option ℕ → Equals
equals_by b next =
    if holds equals_sign b then (if holds equals_sign next then equals.Double else equals.Single)
    else equals.Absent

abbrev pub equals_in : List Cell → Equals
equals_in text = equals_by (byte_at (count_before_equals text) text)
    (byte_at (count_before_equals text + 1) text)

-- the number of cells before the last one of this equals sign; `before` are before its first
abbrev pub count_to_last : Equals → ℕ → ℕ
count_to_last equals.Double before = before + 1
count_to_last _ before = before

abbrev pub equals_last : List Cell → ℕ
equals_last text = count_to_last (equals_in text) (count_before_equals text)

-- the number of cells through the equals sign, if there is one; `last` of them are before its last
abbrev pub count_through : Equals → ℕ → Option ℕ
count_through equals.Absent last = None
count_through _ last = Some (last + 1)

abbrev pub equals_count : List Cell → Option ℕ
equals_count text = count_through (equals_in text) (equals_last text)

abbrev pub is_single : Equals → Bool
is_single equals.Single = true
is_single _ = false

-- a single = follows, which makes a use look like a definition
abbrev pub has_single_equals : List Cell → Bool
has_single_equals text = is_single (equals_in text)

-- the number of cells after the name through its equals sign, if the name is a definition: @> has
-- to end it
abbrev pub definition_count : List Cell → Option ℕ
definition_count text = if is_ended text then equals_count (after_name text) else None

-- the lexemes of names

-- the occurrence of this name in this role
abbrev pub in_role : OccurrenceRole → Name → OccurrenceOnLine
in_role role name =
    record { text = name.text; is_file = name.is_file; role = role; line = name.line }

-- the lexeme of a name in a role, with these tokens
abbrev pub name_lexeme : OccurrenceRole → List Token → ℕ → LexerState → List Cell → Lexeme
name_lexeme role tokens more after text = record {
  tokens = tokens;
  occurrence = Some (record {
    text = name_text (drop 2 text);
    is_file = holds left_parenthesis (byte_at 1 text);
    role = role;
    line = front_line after.last_line text;
  });
  more = more;
  after = record after { occurrences = after.occurrences + 1 };
}

-- In C text a name is a use, even if it is in a directive or looks like a definition, which are
-- faults. The use ends on the line on which the name ends.
abbrev pub use_of_name : LexerState → List Cell → Lexeme
use_of_name s text =
    name_lexeme role.Use
    (token.UseOf (front_line s.last_line (name_end text)) s.occurrences
    ∷ fault_if (is_in_directive s) fault.UseInDirective (front_line s.last_line text)
    ++ name_faults s.last_line text
    ++ fault_if (has_single_equals (after_name text))
    fault.NameEquals (front_line s.last_line text))
    (name_more text) (with_line after_use s) text

abbrev pub is_macro_mode : Mode → Bool
is_macro_mode mode.Macro = true
is_macro_mode _ = false

-- a mention that ends a macro is a fault, since the macro is cut there
abbrev pub mention_faults : LexerState → List Cell → List Token
mention_faults s text =
    name_faults s.last_line text
    ++ fault_if (is_macro_mode s.mode) fault.NameInMacro (front_line s.last_line text)

-- A name of documentation, or one that ends a macro, is a definition if `count` cells after it end
-- with an equals sign: a C part begins after them. Otherwise it is a mention.
abbrev pub definition_or_mention : Option ℕ → LexerState → List Cell → Lexeme
definition_or_mention None s text =
    name_lexeme role.Mention (mention_faults s text) (name_more text)
    (in_mode mode.Documentation s) text
definition_or_mention (Some count) s text =
    name_lexeme role.Definition
    (token.NamedPart (front_line s.last_line (drop (name_more text + count) text)) s.occurrences
    ∷ [])
    (name_more text + count) (in_mode mode.CPart s) text

abbrev pub name_in_documentation : LexerState → List Cell → Lexeme
name_in_documentation s text = definition_or_mention (definition_count text) s text
