-- The lines that wait, by the file that is read first.
use Rattle.std.proofs.Common.{◌≡◌, List, [], ◌∷◌, ◌++◌, sym, ap, ◌∙◌}
use Rattle.std.proofs.Common.{append_assoc, append-nil}
use Rattle.tangle_lines.specs.Reading.{WaitingLine}
use Rattle.tangle_lines.specs.Waiting.{stacked}

-- the last file is read first
pub stacked_push : (fs : List (List WaitingLine)) (f : List WaitingLine) → stacked (fs ++ f ∷ []) ≡ f ++ stacked fs
stacked_push [] f = sym (append-nil f)
stacked_push (g ∷ fs) f = ap (λ l. l ++ g) (stacked_push fs f) ∙ append_assoc f (stacked fs) g
