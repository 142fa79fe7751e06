-- A verbatim text is an item of the open line of C, which may end in a backslash.
use Rattle.std.proofs.Common.{rules}
use Rattle.std.proofs.Common.{◌≡◌, ◌≤◌, Bool, true, false, List, [], ◌∷◌}
use Rattle.std.proofs.Common.{inl, inr, refl, arith, ◌<◌, ◌++◌, ℕ}
use Rattle.std.proofs.lemmas.Bool.Decides.{nat_tests}
use Rattle.tangle_text.specs.declared.regions.Region.TheVariants as region
use Rattle.tangle_text.specs.declared.regions.Unit.{Unit as Unit-of}
use Rattle.tangle_text.specs.declared.regions.Unit.TheVariants as unit
use Rattle.tangle_text.proofs.UnitLemmas.{count-is}
use Rattle.tangle_text.specs.Regions.{units, unit_at, count_before}
use Rattle.tangle_text.specs.Text.{Cell, span_at}
use Rattle.tangle_lexer.specs.declared.modes.AtLineEnd.{AtLineEnd}
use Rattle.tangle_lexer.specs.declared.modes.AtLineEnd.TheVariants.{Ends}
use Rattle.tangle_lexer.specs.declared.modes.LineOfC.{LineOfC}
use Rattle.tangle_lexer.specs.declared.tokens.SpanKind.TheVariants as span_kind
use Rattle.tangle_lexer.specs.declared.tokens.Token.{Token}
use Rattle.tangle_lexer.specs.declared.tokens.Token.TheVariants as token
use Rattle.tangle_lexer.specs.LinesOfC.{with_item}
use Rattle.tangle_lexer.specs.Quoted.{cut_tokens, at_stop, verbatim_end, verbatim_tokens, last_is_backslash}
use Rattle.tangle_lexer.specs.Quoted.{verbatim_ends_in_backslash}
use Rattle.tangle_lexer.proofs.laws.CutTexts.{verbatim-cut}
use Rattle.tangle_lexer.proofs.laws.Points.{Point, IsTextAt, text-column}
use Rattle.tangle_lexer.proofs.laws.RegionUnits.{units-by}
use Rattle.std.proofs.Common.{◌∙◌}
use Rattle.tangle_text.specs.Bytes.{is_line_end}
use Rattle.tangle_faults.specs.declared.faults.FaultKind.TheVariants as fault
use Rattle.tangle_lexer.proofs.lemmas.PlainTokens.{verbatim_tokens-text}
use Rattle.tangle_lexer.proofs.lines.LineSteps.{Judgement, Steps}
use Rattle.tangle_lexer.proofs.lines.TextSteps.{end_by, last_cell, same-item, kind_past, end_past, text-steps, IsCutFrom, stop-past, cut-past}

-- the last unit is a backslash if the last cell is
units-last : (text : List Cell) (last : Bool)
    → last_is_backslash last (units region.Verbatim text) ≡ last_cell last (count_before region.Verbatim text) text
units-last =
    units-by region.Verbatim
    (λ n text. (last : Bool) → last_is_backslash last (units region.Verbatim text) ≡ last_cell last n text)
    (search rules) (λ last. refl) (search rules) (search rules)
    (λ c e. absurd (let never : false ≡ true = (grind arith) in cc))

goes-some : (text : List Cell) → (unit_at region.Verbatim text ≡ unit.Stop → ⊥) → 0 < count_before region.Verbatim text
goes-some [] go = absurd (go refl)
goes-some (c ∷ cs) go = grind (arith, nat_tests, count-is)

module _ (texts : List (List ℕ)) where
  verbatim-past : (at : Point) (start : ℕ) (text : List Cell) → start ≤ at.column → IsTextAt texts at text
      → IsCutFrom texts region.Verbatim at start (verbatim_end start text) 0 text
  unfolding IsCutFrom
  verbatim-past at start [] h is = grind (arith, nat_tests)
  verbatim-past at start (c ∷ cs) h is =
      stop-past texts region.Verbatim at start c cs (is_line_end c.byte) fault.VerbatimEnd h is.0

  pub verbatim-steps : (R : Judgement texts) (l : LineOfC) (e : AtLineEnd) (at : Point) (text : List Cell)
      → IsTextAt texts at text
      → Steps texts R l e (verbatim_tokens text) (with_item false l) (end_by (verbatim_ends_in_backslash text))
  unfolding IsCutFrom
  verbatim-steps R l e at text is =
      let cut = cut-past texts region.Verbatim verbatim-cut verbatim_end verbatim-past at at.column text (omega arith) is in
      let ends = rw (← text-column texts at text is) at (by (unit_at region.Verbatim text) refl (cut_tokens verbatim_end region.Verbatim 0 at.column text) cut) in
      rw (units-last text false) (rw (ends.0, ends.1) at (text-steps texts R (verbatim_tokens text) l e (verbatim_tokens-text text).none))
    where
      by : (u : Unit-of) → unit_at region.Verbatim text ≡ u → (ts : List Token)
          → IsCutFrom texts region.Verbatim at at.column ts (count_before region.Verbatim text) text
          → let us : List Token = at_stop u (token.Span span_kind.Verbatim (span_at 0 text) ∷ []) [] ++ ts in
          (kind_past texts l us ≡ with_item false l)
          × (end_past texts e us ≡ end_by (last_cell false (count_before region.Verbatim text) text))
      by unit.Stop stops ts past =
          let ends = past (with_item false l) Ends false (λ k. absurd (omega arith)) (λ k. inr (same-item l, refl)) in
          (ends.0 ∙ same-item l, grind (arith, nat_tests, ends.1))
      by u goes ts past = past l e false (λ k. absurd (omega arith)) (λ k. inl (goes-some text (λ stops. cc)))
