-- Lines of C, each of which a C compiler reads as one. A line of C begins at the front of a part,
-- after a line end where the line before does not go on, and after a use or @h, which a line mark
-- follows. It is a directive, that is, a line of the preprocessor, if its first item is the sign #.
-- This is what the lexer knows of the line that it reads; LinesOfParts says it of whole parts.
use Rattle.std.specs.Prelude.{Bool, true, false, if◌then◌else◌, List, [], ◌∷◌}
use Rattle.tangle_lexer.specs.declared.modes.IncludeState.{IncludeState}
use Rattle.tangle_lexer.specs.declared.modes.IncludeState.TheVariants as include
use Rattle.tangle_lexer.specs.declared.modes.LineOfC.{LineOfC}
use Rattle.tangle_lexer.specs.declared.modes.LineOfC.TheVariants as line
use Rattle.tangle_lexer.specs.declared.modes.AtLineEnd.{AtLineEnd}
use Rattle.tangle_lexer.specs.declared.modes.AtLineEnd.TheVariants.{Ends, Continued, Removed}
use Rattle.tangle_lexer.specs.declared.modes.LineState.{LineState}
use Rattle.tangle_lexer.specs.declared.tokens.Token.{Token}
use Rattle.tangle_lexer.specs.declared.tokens.Token.TheVariants as token

-- the front of a part
abbrev pub front : LineState
front = record {
  include = include.AtStart;
  line = line.Empty;
  at_line_end = Ends;
}

abbrev pub is_directive_line : LineOfC → Bool
is_directive_line line.Directive = true
is_directive_line _ = false

-- the line after an item, which may be its first
abbrev pub with_item : Bool → LineOfC → LineOfC
with_item is_number_sign line.Directive = line.Directive
with_item is_number_sign line.Other = line.Other
with_item is_number_sign _ = if is_number_sign then line.Directive else line.Other

-- after an item; `inc` is how much of #include was read then
abbrev pub after_item : IncludeState → Bool → Bool → LineState → LineState
after_item inc is_number_sign is_backslash l = record {
  include = inc;
  line = with_item is_number_sign l.line;
  at_line_end = if is_backslash then Continued else Ends;
}

-- the line after a join, which removes the line ends after the last item
abbrev pub joined_line : LineOfC → LineOfC
joined_line line.AfterDirective = line.Directive
joined_line line.AfterOther = line.Other
joined_line l = l

-- The line of C after a line end: the line before goes on after a backslash that is directly before
-- the line end, white space aside, and where a join removes the line end.
abbrev pub line_after_end : AtLineEnd → LineOfC → LineOfC
line_after_end Ends line.Directive = line.AfterDirective
line_after_end Ends line.Other = line.AfterOther
line_after_end _ l = l

-- a join removes all line ends after it, and a backslash is before the first one alone
abbrev pub at_next_line_end : AtLineEnd → AtLineEnd
at_next_line_end Removed = Removed
at_next_line_end _ = Ends

-- after a line end of the part, after which #include may begin
abbrev pub after_line_end : LineState → LineState
after_line_end l = record {
  include = include.AtStart;
  line = line_after_end l.at_line_end l.line;
  at_line_end = at_next_line_end l.at_line_end;
}

abbrev pub after_join : LineState → LineState
after_join l =
    record { include = include.Elsewhere; line = joined_line l.line; at_line_end = Removed }

-- after a use or @h a line of C begins, but #include can begin on the next line at the earliest
abbrev pub after_use : LineState
after_use = record front { include = include.Elsewhere }

-- A line end inside a comment or a control text is white space in a directive, since a comment is
-- one space for C, over however many lines it is. Elsewhere it is a line end of the part.

abbrev pub inner_end_in : Bool → Token → Token
inner_end_in true (token.LineEnd line) = token.InnerLineEnd line
inner_end_in _ t = t

-- after white space with these line ends; `in_directive`: it is in a directive
abbrev pub after_line_ends : Bool → List Token → LineState → LineState
after_line_ends in_directive [] l = l
after_line_ends in_directive (t ∷ ts) l =
    after_line_ends in_directive ts (if in_directive then l else after_line_end l)
