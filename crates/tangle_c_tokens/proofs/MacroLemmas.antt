-- The tokens of the bytes of a macro are those of its groups.
use Rattle.std.proofs.Common.{rules}
use Rattle.std.proofs.Common.{arith}
use Rattle.std.proofs.Common.{◌≡◌, ℕ, Bool, true, false, ◌&&◌, ◌||◌, not, List, [], ◌∷◌}
use Rattle.std.proofs.Common.{◌++◌, map, flat_map}
use Rattle.std.proofs.Common.{append_assoc, append-nil, Option, Some, None, refl, ap, sym, ◌∙◌}
use Rattle.std.proofs.Common.{subst, codes}
use Rattle.std.specs.List.{AllByRecursion}
use Rattle.std.specs.Option.{IfSome}
use Rattle.std.proofs.lemmas.Bool.{cond_both}
use Rattle.c_tokens.specs.Bytes.{line_feed, backslash}
use Rattle.c_tokens.specs.Grammar.{is_element, is_token, is_punctuator}
use Rattle.c_tokens.specs.Reading.{spliced}
use Rattle.c_tokens.specs.Touching.{TextKind}
use Rattle.c_tokens.specs.Borders.{is_whole, have_border}
use Rattle.tangle_lexer.specs.declared.tokens.Token.{Token}
use Rattle.tangle_lexer.specs.declared.tokens.Token.TheVariants as token
use Rattle.tangle_scan.specs.Rules.{may_touch, next_item, has_blank_at_line_end}
use Rattle.tangle_scan.specs.Rules.{is_name_part, macro_blanks, unmarked_items, is_front_gap}
use Rattle.tangle_scan.specs.MacroBytes.{macro_item_bytes, macro_bytes}
use Rattle.tangle_scan.specs.ReadAsMeant.{written_tokens}
use Rattle.tangle_scan.proofs.lemmas.RuleLemmas.{macro_blanks-item}
use Rattle.tangle_scan.proofs.laws.MacroEnds.{items_from, end-items}
use Rattle.tangle_c_tokens.specs.Reading.{IsReadAsTexts}
use Rattle.tangle_c_tokens.specs.Edges.{begins_as, ends_as, last_number_goes_on}
use Rattle.tangle_c_tokens.specs.Kinds.{item_kind, is_range}
use Rattle.tangle_c_tokens.specs.Groups.{Group, group_before, groups_after, group_text}
use Rattle.tangle_c_tokens.specs.Macros.{text_of, stay_apart, IsReadAlone, GroupsAreReadAlone, macro_texts}
use Rattle.tangle_c_tokens.proofs.kind_lemmas.TableKinds.{same_table}
use Rattle.tangle_c_tokens.proofs.OneLineLemmas.{HasItsEdges, AreOnLine, IsLast, one-more, next-edges, written-on_line}
use Rattle.c_lines.proofs.JoinedLemmas.{ends_back, lines-one}
use Rattle.tangle_c_tokens.proofs.GroupLemmas.{last-item, text-more, group-one}
use Rattle.tangle_c_tokens.proofs.TextLemmas.{feed-between, feed-front, space-between}
use Rattle.tangle_c_tokens.proofs.TextLemmas.{taken-between, taken-front, kinds-border}
use Rattle.tangle_c_tokens.proofs.TextLemmas.{ends-as}
use Rattle.tangle_c_tokens.proofs.TextLemmas.{no-text}
use Rattle.std.proofs.lemmas.Bool.Decides.{nat_tests}

-- `tail` is written after the macro, and read as the texts `ts`.
module _ (texts : List (List ℕ)) (tail : List ℕ) (ts : List (List ℕ))
    (read : IsReadAsTexts ts tail) where
  -- the bytes that rule 3 makes of the tokens of a macro, up to its end; the arguments before the
  -- tokens are those of the rule
  abbrev bytes_from : Bool → Option Token → Bool → List Token → List ℕ
  bytes_from in_name before white es =
      flat_map (macro_item_bytes texts) (items_from texts in_name before white es) ++ line_feed ∷ tail

  item-bytes : (e : Token) (es : List Token) → is_front_gap e ≡ false
      → flat_map (macro_item_bytes texts) (unmarked_items (e ∷ es)) ++ line_feed ∷ tail ≡ text_of texts e
      ++ (flat_map (macro_item_bytes texts) (unmarked_items es) ++ line_feed ∷ tail)
  item-bytes e es item = search (rules, append_assoc)

  -- an item after white space on its line, directly after another item, and at the front of a line

  front-item : (in_name white : Bool) (e : Token) (es : List Token) → is_front_gap e ≡ false →
      bytes_from in_name None white (e ∷ es) ≡ text_of texts e ++ bytes_from
      (in_name && not white && is_name_part e) (Some e) false es
  front-item in_name white e es item = search (rules, macro_blanks-item, item-bytes)

  -- a line end that is taken out, between two items that may touch

  abbrev Meets : List ℕ → Option Token → Type 0
  Meets a None = Unit {0}
  Meets a (Some f) = (more : List ℕ) → have_border a (spliced (text_of texts f ++ more)) ≡ true

  front-border : (a : List ℕ) (in_name white : Bool) (es : List Token) → Meets a (next_item es) →
      have_border a (spliced (bytes_from in_name None white es)) ≡ true
  front-border a in_name white [] meets = grind (arith, nat_tests)
  front-border a in_name white (e ∷ es) meets =
      search (rules, front-border a in_name true es, front-border a false false es, front-item in_name white e es)

  apart-edges : (text : List ℕ) (e f : Token) → HasItsEdges texts e → HasItsEdges texts f → may_touch texts e f ≡ true
      → stay_apart texts text (Some e) (Some f) ≡ true → (ends_as (item_kind texts e) (text_of texts e) ≡ true)
      × ((begins_as (item_kind texts f) (text_of texts f) ≡ true)
      × (last_number_goes_on (spliced text) (text_of texts f) ≡ false))
  apart-edges text e f of_e of_f may apart = by (is_range e) (is_range f) of_e.ends of_f.begins (rw may at apart)
    where
      by : {ends begins continued : Bool} (range next_range : Bool) → (range ≡ false → ends ≡ true)
          → (next_range ≡ false → begins ≡ true)
          → ((not range || ends) && (not next_range || begins) && not continued) ≡ true
          → (ends ≡ true) × ((begins ≡ true) × (continued ≡ false))
      by range next_range of_ends of_begins all = grind arith

  meets-next : (items : List Token) (e f : Token) → HasItsEdges texts e → HasItsEdges texts f
      → may_touch texts e f ≡ true
      → stay_apart texts (group_text texts (items ++ e ∷ [])) (Some e) (Some f) ≡ true
      → Meets (spliced (group_text texts (items ++ e ∷ []))) (Some f)
  meets-next items e f of_e of_f may apart more =
      let k = item_kind texts e in
      let g : TextKind = item_kind texts f in
      let inner = apart-edges (group_text texts (items ++ e ∷ [])) e f of_e of_f may apart in
      grind (arith, nat_tests, kinds-border k g, same_table texts e f, text-more (text_of texts) items e, ends-as k)

  meets-if_no_blank : (in_name : Bool) (items : List Token) (e : Token) (next : Option Token) → HasItsEdges texts e
      → IfSome next (HasItsEdges texts) → has_blank_at_line_end texts in_name (Some e) next ≡ false
      → stay_apart texts (group_text texts (items ++ e ∷ [])) (Some e) next ≡ true
      → Meets (spliced (group_text texts (items ++ e ∷ []))) next
  meets-if_no_blank in_name items e next of_e of_next none apart = search (rules, meets-next)

  -- The bytes from these tokens on are read as their groups.

  abbrev texts_in : List Group → List (List ℕ)
  texts_in gs = map (λ (group : Group). group_text texts group.items) gs

  abbrev AreReadAlone : List Group → Type 0
  AreReadAlone gs = AllByRecursion (IsReadAlone texts) gs

  abbrev ReadsAs : List Group → List ℕ → Type 0
  ReadsAs gs bytes = AreReadAlone gs → IsReadAsTexts (texts_in gs ++ ts) bytes

  -- at the front of a line
  abbrev ReadsFront : List Token → Type 0
  ReadsFront es = AreOnLine texts false es → (in_name white : Bool)
      → ReadsAs (groups_after [] es) (bytes_from in_name None white es)

  -- directly after an item
  abbrev ReadsWithin : List Token → Type 0
  ReadsWithin es = (in_name : Bool) (items : List Token) (e : Token) → IsLast texts items e
      → AreOnLine texts (ends_back false (group_text texts (items ++ e ∷ []))) es
      → ReadsAs (groups_after (items ++ e ∷ []) es)
      (group_text texts (items ++ e ∷ []) ++ bytes_from in_name (Some e) false es)

  -- after a group
  abbrev ReadsAfter : Bool → Bool → List Token → Type 0
  ReadsAfter in_name white es = (items : List Token) (e : Token) → IsLast texts items e → AreOnLine texts false es
      → IsReadAlone texts (record { items = items ++ e ∷ []; rest = es }) → AreReadAlone (groups_after [] es)
      → IsReadAsTexts (group_text texts (items ++ e ∷ []) ∷ texts_in (groups_after [] es) ++ ts)
      (group_text texts (items ++ e ∷ []) ++ bytes_from in_name (Some e) white es)

  record TokensAreRead (es : List Token) : Type 0 where
    front : ReadsFront es
    within : ReadsWithin es
    after_white : (in_name : Bool) → ReadsAfter in_name true es

  -- from after a group to what is directly after an item
  closed : (items : List Token) (e : Token) (rest : List Token) (bytes : List ℕ) (gs : List Group) →
      (IsReadAlone texts (record { items = items ++ e ∷ []; rest = rest }) → AreReadAlone gs →
      IsReadAsTexts (group_text texts (items ++ e ∷ []) ∷ texts_in gs ++ ts) bytes) →
      ReadsAs (group_before rest (items ++ e ∷ []) ++ gs) bytes
  closed items e rest bytes gs reads = grind (arith, nat_tests, group-one items e rest)

  at-end : (in_name white : Bool) → ReadsAfter in_name white []
  at-end in_name white items e last on alone rest =
      let t = group_text texts (items ++ e ∷ []) in
      feed-between t tail (lines-one t alone.whole last.one) (alone.ended refl) ts read

  at-line_end : (line : ℕ) (es : List Token) → ReadsFront es → (in_name white : Bool)
      → ReadsAfter in_name white (token.LineEnd line ∷ es)
  at-line_end line es front in_name white items e last on alone rest =
      let t : List ℕ = group_text texts (items ++ e ∷ []) in
      let after : List ℕ = bytes_from false None false es in
      let next = front on false false rest in
      let apart = ap (λ last. stay_apart texts t last (next_item es)) (sym (last-item None items e))
      ∙ alone.apart refl in
      cond_both (has_blank_at_line_end texts in_name (Some e) (next_item es)) (token.White ∷ []) []
      (λ blanks. IsReadAsTexts (t ∷ texts_in (groups_after [] es) ++ ts)
      (t ++ (flat_map (macro_item_bytes texts) (unmarked_items (blanks ++ token.LineEnd line
      ∷ macro_blanks texts false None false es)) ++ line_feed ∷ tail)))
      (λ is. space-between t (backslash ∷ line_feed ∷ after) alone.whole last.one _ (taken-front after _ next))
      (λ is. taken-between t after alone.whole last.one
      (front-border (spliced t) false false es
      (meets-if_no_blank in_name items e (next_item es) last.edges (next-edges texts es false on) is apart)) _ next)

  at-item : (e : Token) (es : List Token) → is_front_gap e ≡ false →
      ((items : List Token) → groups_after items (e ∷ es) ≡ groups_after (items ++ e ∷ []) es)
      → ReadsWithin es → TokensAreRead (e ∷ es)
  at-item e es item more within = record {
    front = λ on in_name white alone.
        rw (front-item in_name white e es item) (first on (in_name && not white && is_name_part e)
        alone);
    within = λ in_name items before last on alone.
        let after : List ℕ = bytes_from (in_name && true && is_name_part e) (Some e) false es in
        let t : List ℕ = group_text texts (items ++ before ∷ []) in
        let next = one-more texts (items ++ before ∷ []) e es item last.one on in
        subst (IsReadAsTexts (texts_in (groups_after (items ++ before ∷ []) (e ∷ es)) ++ ts))
        (search (rules, append_assoc, text-more))
        (subst (λ gs. ReadsAs gs (group_text texts ((items ++ before ∷ []) ++ e ∷ []) ++ after))
        (sym (more (items ++ before ∷ [])))
        (within (in_name && true && is_name_part e) (items ++ before ∷ []) e next.0 next.1) alone);
    after_white = λ in_name items before last on alone rest.
        let after = text_of texts e ++ bytes_from (in_name && false && is_name_part e) (Some e) false es in
        let t : List ℕ = group_text texts (items ++ before ∷ []) in
        subst (IsReadAsTexts (t ∷ texts_in (groups_after [] (e ∷ es)) ++ ts))
        (sym (ap (λ bs. t ++ bs) (search (rules, macro_blanks-item, item-bytes))))
        (space-between t after alone.whole last.one _ (first on (in_name && false && is_name_part e) rest));
  }
    where
      first : AreOnLine texts false (e ∷ es) → (in_name : Bool) → ReadsAs (groups_after [] (e ∷ es))
          (text_of texts e ++ bytes_from in_name (Some e) false es)
      first on in_name =
          let next = one-more texts [] e es item refl on in
          rw (more []) (simp append-nil at (within in_name [] e next.0 next.1))

  -- white space and line ends change nothing of a group before them
  same-group : (items : List Token) (es : List Token)
      → IsReadAlone texts (record { items = items; rest = token.White ∷ es }) →
      IsReadAlone texts (record { items = items; rest = es })
  same-group items es alone = grind (arith, nat_tests)

  reads : (es : List Token) → TokensAreRead es
  reads [] = record {
    front = λ on in_name white alone. feed-front tail ts read;
    within = λ in_name items e last on.
        rw (group-one items e []) (λ alone. at-end in_name false items e last tt alone.0 alone.1);
    after_white = λ in_name. at-end in_name true;
  }
  reads (token.White ∷ es) =
      let next = reads es in
      record {
        front = λ on in_name white. next.front on in_name true;
        within = λ in_name items e last on. closed items e (token.White ∷ es) _ (groups_after [] es)
            (λ alone. next.after_white in_name items e last on (same-group (items ++ e ∷ []) es alone));
        after_white = λ in_name items e last on alone. next.after_white in_name items e last on
            (same-group (items ++ e ∷ []) es alone);
      }
  reads (token.LineEnd line ∷ es) =
      let next = reads es in
      record {
        front = λ on in_name white alone. taken-front _ _ (next.front on false false alone);
        within = λ in_name items e last on. closed items e (token.LineEnd line ∷ es) _
            (groups_after [] es)
            (at-line_end line es next.front in_name false items e last on);
        after_white = λ in_name. at-line_end line es next.front in_name true;
      }
  reads (e ∷ es) = let next = reads es in at-item e es refl (λ items. refl) next.within

  define-whole : is_whole (codes "#define") ≡ true
  unfolding is_element is_token is_punctuator
  define-whole = refl

  pub macro-by-groups : (es : List Token) → AreOnLine texts false es → GroupsAreReadAlone texts es →
      IsReadAsTexts (macro_texts texts es ++ ts) (macro_bytes texts (unmarked_items (macro_blanks texts true None false es)) ++ tail)
  macro-by-groups es on alone =
      let written = written_tokens texts es in
      let text = flat_map (macro_item_bytes texts) (items_from texts true None false written) in
      subst (IsReadAsTexts (macro_texts texts es ++ ts)) (search (rules, end-items, append_assoc))
      (space-between (codes "#define") (bytes_from true None false written) define-whole refl _
      ((reads written).front (written-on_line texts es false on) true false alone))

-- the bytes of a macro alone
pub one-macro : (texts : List (List ℕ)) (es : List Token) → AreOnLine texts false es → GroupsAreReadAlone texts es →
    IsReadAsTexts (macro_texts texts es) (macro_bytes texts (unmarked_items (macro_blanks texts true None false es)))
one-macro texts es on alone = simp append-nil at (macro-by-groups texts [] [] no-text es on alone)
