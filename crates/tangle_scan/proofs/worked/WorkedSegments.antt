-- Which cells are a control text, a section name, an ASCII constant or a comment, and which are not; and which spans
-- are in order.
use Rattle.std.proofs.lemmas.Bool.Decides.{nat_tests}
use Rattle.std.proofs.Common.{◌≡◌, ℕ, ◌+◌, true, false, refl, List, [], ◌∷◌, ◌++◌, Some, None, codes, arith}
use Rattle.tangle_text.specs.Text.{Cell}
use Rattle.tangle_text.specs.declared.spans.Span.{Span}
use Rattle.tangle_scan.specs.KeptBytes.{EndsBefore}
use Rattle.tangle_lexer.specs.Segments.{ShowsKind}
use Rattle.tangle_lexer.specs.Segments.SegmentKind.{Comment, ControlText, SectionName, AsciiConstant}

-- the cells of bytes on one line, from a column on
abbrev cells_from : ℕ → List ℕ → List Cell
cells_from n [] = []
cells_from n (b ∷ bs) = record { line = 0; column = n; byte = Some b } ∷ cells_from (n + 1) bs

abbrev cells : List ℕ → List Cell
cells bytes = cells_from 0 bytes

-- the line end after nine bytes of line 0
abbrev line_end : List Cell
line_end = record { line = 0; column = 9; byte = None } ∷ []

abbrev on_line : ℕ → ℕ → ℕ → Span
on_line line start end = record { line = line; start = start; end = end }

record Examples : Type 0 where
  -- control texts
  pub control_text : ShowsKind ControlText (cells (codes "@^x@@>@>"))
  pub control_text_that_another_code_ended : ShowsKind ControlText (cells (codes "@^x@@"))
  pub no_control_text_past_its_end : ShowsKind ControlText (cells (codes "@^x@>;")) → ⊥
  pub no_control_text_past_another_code : ShowsKind ControlText (cells (codes "@^x@h@>")) → ⊥
  -- section names
  pub section_name : ShowsKind SectionName (cells (codes "@<a@@>@xb@>"))
  pub no_section_name_past_its_end : ShowsKind SectionName (cells (codes "@<a@>;")) → ⊥
  pub no_section_name_over_a_section_start : ShowsKind SectionName (cells (codes "@<a@*b@>")) → ⊥
  pub no_section_name_over_a_name_start : ShowsKind SectionName (cells (codes "@<a@<b@>")) → ⊥
  -- comments
  pub no_comment_over_a_section_start : ShowsKind Comment (cells (codes "/*a@*b*/")) → ⊥
  -- the order of spans
  pub spans_that_touch : EndsBefore (on_line 0 1 2) (on_line 0 2 3)
  pub no_order_on_a_line : EndsBefore (on_line 0 1 2) (on_line 0 0 1) → ⊥
  pub no_order_of_lines : EndsBefore (on_line 1 0 1) (on_line 0 2 3) → ⊥

examples : Examples
examples = grind (arith, nat_tests)

-- ASCII constants

no_constant_over_a_line_end : ShowsKind AsciiConstant (cells (codes "@'a") ++ line_end ++ cells (codes "'")) → ⊥
no_constant_over_a_line_end h = let none : true ≡ false = h.1.1.1.1.0 in cc

no_constant_past_its_end : ShowsKind AsciiConstant (cells (codes "@'a'+b;")) → ⊥
no_constant_past_its_end h = let same = h.2 3 (omega arith) (omega arith) refl in let none : false ≡ true = same.1 in cc
