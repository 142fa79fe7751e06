-- The occurrences of section names.
use Rattle.std.specs.Prelude.{ℕ, Bool, List}
use Rattle.tangle_lines.specs.declared.origin.Origin.{Origin}
use Rattle.tangle_lines.specs.Reading.{SourceLine, origin_at}
use Rattle.tangle_lexer.specs.declared.occurrences.OccurrenceRole.{OccurrenceRole}
use Rattle.tangle_lexer.specs.Lexemes.{OccurrenceOnLine}
use Rattle.tangle_lexer.specs.Names.{is_abbreviation}

-- an occurrence of a section name: its text, with the dots of an abbreviation; whether it is an
-- abbreviation; whether @( opens it; its role and its origin
pub record OccurrenceRead : Type 0 where
  pub text : List ℕ
  pub is_abbreviation : Bool
  pub is_file : Bool
  pub role : OccurrenceRole
  pub origin : Origin

-- an occurrence that was read, with the origin of its line
abbrev pub occurrence_of : List SourceLine → OccurrenceOnLine → OccurrenceRead
occurrence_of lines n = record {
  text = n.text;
  is_abbreviation = is_abbreviation n.text;
  is_file = n.is_file;
  role = n.role;
  origin = origin_at lines n.line;
}
