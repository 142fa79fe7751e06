-- The tokens of a use, a mention and a definition are in order. `texts` are the bytes of the source lines.
use Rattle.std.proofs.Common.{◌-◌, ◌<◌, rules}
use Rattle.std.proofs.lemmas.Bool.Decides.{nat_tests}
use Rattle.std.proofs.Common.{◌≡◌, ℕ, ◌+◌, Bool, not, List, ◌∷◌, ◌++◌, drop, Option}
use Rattle.std.proofs.Common.{Some, None, refl, sym, arith, subst, cond}
use Rattle.std.proofs.lemmas.List.{drop-drop}
use Rattle.tangle_faults.specs.declared.faults.FaultKind.{FaultKind}
use Rattle.tangle_faults.specs.declared.faults.FaultKind.TheVariants as fault
use Rattle.tangle_lexer.specs.declared.tokens.Token.{Token}
use Rattle.tangle_lexer.specs.declared.modes.LexerState.{LexerState}
use Rattle.tangle_text.specs.Text.{Cell, byte_at, front_line}
use Rattle.tangle_lexer.specs.Lexemes.{Lexeme, fault_if, is_in_directive}
use Rattle.tangle_lexer.specs.Comments.{two_if}
use Rattle.tangle_lexer.specs.Names.{name_count, name_end, is_ended, name_more, after_name}
use Rattle.tangle_lexer.specs.Names.{equals_count, has_single_equals, definition_count, use_of_name}
use Rattle.tangle_lexer.specs.Names.{definition_or_mention, name_in_documentation}
use Rattle.tangle_lexer.proofs.laws.Points.{Point, IsByte, IsTextAt, text-somewhere}
use Rattle.tangle_lexer.proofs.laws.TokenOrder.{IsBefore, Reaches, text-later, IsAtLine, AreInOrder, AreBefore, in_order-append, faults-in_order}
use Rattle.tangle_lexer.proofs.laws.RegionOrder.{are_bytes-hold, end-line}
use Rattle.tangle_lexer.proofs.laws.WhiteOrder.{LexemeIsInOrder, IsAhead, after-end}
use Rattle.tangle_text.proofs.AheadLemmas.{byte_at-drop}

definition-byte : (text : List Cell) (k : ℕ)
    → definition_count text ≡ Some k → IsByte (byte_at 0 (drop (name_more text + k) text))
definition-byte text k e =
    let h = by (is_ended text) e in
    let same : drop (name_more text + k) text ≡ drop (k - 1) (after_name text) = grind (
      arith,
      h.0,
      drop-drop (k - 1) (name_more text) (drop 1 text),
      drop-drop (name_more text + (k - 1)) 1 text,
    ) in
    rw same h.1
  where
    by : (b : Bool) → cond b (equals_count (after_name text)) None ≡ Some k
        → (0 < k) × IsByte (byte_at 0 (drop (k - 1) (after_name text)))
    by b e = search (rules, nat_tests, byte_at-drop)

-- the front of a text is on its own line
pub front-line : (last : ℕ) (text : List Cell) → IsAtLine (front_line last text) text
front-line last x = grind arith

module _ (texts : List (List ℕ)) where
  -- faults in a row lead to the same line
  two-faults : (P : ℕ → Point → Type 0) (a b : Bool) (kind other : FaultKind) (at on line : ℕ) (p : Point)
      → P line p → AreInOrder texts P line p (fault_if a kind at ++ fault_if b other on)
  two-faults x a b kind other at on line p h = grind arith

  pub use_of_name-in_order : (s : LexerState) (line : ℕ) (at : Point) (c : Cell) (cs : List Cell)
      → IsTextAt texts at (c ∷ cs) → LexemeIsInOrder texts line c cs (use_of_name s (c ∷ cs))
  use_of_name-in_order s line at c cs is p reached =
      let text : List Cell = c ∷ cs in
      let rest : List Cell = name_end text in
      let here : ℕ = front_line s.last_line text in
      let last : ℕ = front_line s.last_line rest in
      let ended : Bool = is_ended text in
      let equals : List Token = fault_if (has_single_equals (after_name text)) fault.NameEquals here in
      let two = text-somewhere texts 2 at text is in
      let end = text-somewhere texts (name_count text) two.0 (drop 2 text) two.1 in
      let after : List Cell = drop (two_if ended) rest in
      let later : Reaches after p =
      rw (← after-end (name_count text) (two_if ended) cs) (text-later texts _ at p c cs is reached) in
      subst (λ text_after. AreBefore texts text_after line p (use_of_name s text).tokens)
      (sym (after-end (name_count text) (two_if ended) cs)) (
        tt,
        in_order-append texts (IsBefore after) equals last p _
            (two-faults _ (is_in_directive s) (not ended) fault.UseInDirective fault.NameEnd here last last p
            (search (rules, faults-in_order, end-line, are_bytes-hold, front-line))),
      )

  -- a mention or a definition, in documentation or at the end of a macro, after which C text begins at most after a
  -- definition
  pub name-in_order : (s : LexerState) (line : ℕ) (at : Point) (c : Cell) (cs : List Cell) → IsTextAt texts at (c ∷ cs)
      → let here : Lexeme = name_in_documentation s (c ∷ cs) in (p : Point) → Reaches (c ∷ cs) p
      → AreInOrder texts (IsAhead texts here.after.mode (drop here.more cs)) line p here.tokens
  name-in_order s line at c cs is p reached = by (definition_count (c ∷ cs)) (definition-byte (c ∷ cs))
    where
      by : (o : Option ℕ) → ((k : ℕ) → o ≡ Some k → IsByte (byte_at 0 (drop (name_more (c ∷ cs) + k) (c ∷ cs))))
          → let here : Lexeme = definition_or_mention o s (c ∷ cs) in
          AreInOrder texts (IsAhead texts here.after.mode (drop here.more cs)) line p here.tokens
      by None last = search (rules, two-faults, text-later)
      by (Some k) byte =
          let n : ℕ = name_more (c ∷ cs) + k in
          let there = text-somewhere texts n at (c ∷ cs) is in
          let next : drop n cs ≡ drop 1 (drop n (c ∷ cs)) = grind (arith, drop-drop 1 n (c ∷ cs)) in
          let first = part (drop n (c ∷ cs)) there.0 there.1 (byte k refl) in
          (tt, ((λ inside. rw next first), text-later texts n at p c cs is reached))
        where
          -- a C part begins after the byte at the front
          part : (rest : List Cell) (p : Point) → IsTextAt texts p rest → IsByte (byte_at 0 rest)
              → IsAtLine (front_line s.last_line rest) (drop 1 rest)
          part x p is byte = grind arith
