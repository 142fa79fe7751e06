-- Worked names: the normal forms of these bytes are as expected.
use Rattle.std.proofs.Common.{rules}
use Rattle.std.proofs.Common.{◌≡◌, [], ◌∷◌, codes}
use Rattle.tangle_lexer.proofs.WorkedLines.{source}
use Rattle.tangle_text.specs.Text.{text_from}
use Rattle.tangle_lexer.specs.Names.{name_words, normal_form, name_text}

record Examples : Type 0 where
  pub one_word : normal_form (codes "Globals") ≡ codes "Globals"
  pub white_space_at_both_ends : normal_form (codes "  In   ") ≡ codes "In"
  pub white_space_inside : normal_form (codes "Print  the \t  header") ≡ codes "Print the header"
  pub words_at_both_ends : name_words (codes " a  list of words. ")
      ≡ codes "a" ∷ codes "list" ∷ codes "of" ∷ codes "words." ∷ []
  pub no_bytes : normal_form [] ≡ []
  pub white_space_alone : normal_form (codes "   ") ≡ []
  pub over_two_lines : name_text (text_from 0 (source (codes "Print the" ∷ codes "   header@>=" ∷ [])))
      ≡ codes "Print the header"
  pub double_at_signs : name_text (text_from 0 (source (codes " a@@b  @@ c @>" ∷ []))) ≡ codes "a@b @ c"
  pub no_name : name_text (text_from 0 (source (codes "@>" ∷ []))) ≡ []

examples : Examples
examples = search rules
