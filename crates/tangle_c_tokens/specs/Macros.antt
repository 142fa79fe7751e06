-- The tokens that a C compiler reads of a macro are those of its groups of items.
use Rattle.std.specs.Prelude.{◌≡◌, ℕ, Bool, true, ◌&&◌, ◌||◌, not, List, [], ◌∷◌}
use Rattle.std.specs.Prelude.{map, codes, Option, None, Some}
use Rattle.std.specs.List.{AllByRecursion, AllZip, last_or}
use Rattle.c_tokens.specs.Bytes.{line_feed}
use Rattle.c_tokens.specs.Reading.{spliced}
use Rattle.c_tokens.specs.Borders.{is_whole, keep_lines}
use Rattle.tangle_lines.specs.Reading.{SourceRead}
use Rattle.tangle_lexer.specs.declared.tokens.Token.{Token}
use Rattle.tangle_scan.specs.Rules.{may_touch, next_item, ends_line}
use Rattle.tangle_scan.specs.MacroBytes.{macro_bytes}
use Rattle.tangle_scan.specs.ReadAsMeant.{token_bytes, written_tokens, all_macro_tokens}
use Rattle.tangle_scan.specs.Web.{WebRead}
use Rattle.tangle_c_tokens.specs.Reading.{IsReadAsTexts}
use Rattle.tangle_c_tokens.specs.Edges.{begins_as, ends_as, last_number_goes_on}
use Rattle.tangle_c_tokens.specs.Kinds.{item_kind, is_range}
use Rattle.tangle_c_tokens.specs.LineFeeds.{SourceLinesHaveNoLineFeed}
use Rattle.tangle_c_tokens.specs.Groups.{Group, groups, group_text}

module _ (texts : List (List ℕ)) where
  abbrev pub text_of : Token → List ℕ
  text_of e = token_bytes texts (λ e. []) e

  -- Two items on both sides of a line end, of which the first ends this text, may touch: a quoted
  -- text begins and ends with a quote, as a header name does not, and no number at the end of the
  -- first text goes on with the second item.
  abbrev pub stay_apart : List ℕ → Option Token → Option Token → Bool
  stay_apart text (Some e) (Some f) =
      not (may_touch texts e f)
      || (not (is_range e) || ends_as (item_kind texts e) (text_of e))
      && (not (is_range f) || begins_as (item_kind texts f) (text_of f))
      && not (last_number_goes_on (spliced text) (text_of f))
  stay_apart text e f = true

  -- A group is read alone: its comments and quoted texts are all ended, it stays apart from what
  -- is on the next line, and no backslash at its end takes out the line feed that ends the macro.
  pub record IsReadAlone (group : Group) : Type 0 where
    pub whole : is_whole (group_text texts group.items) ≡ true
    pub apart : ends_line group.rest ≡ true
        → stay_apart (group_text texts group.items)
        (last_or None group.items) (next_item group.rest) ≡ true
    pub ended : next_item group.rest ≡ None
        → keep_lines (group_text texts group.items) (line_feed ∷ []) ≡ true

  -- each group of a macro with these tokens is read alone
  abbrev pub GroupsAreReadAlone : List Token → Type 0
  GroupsAreReadAlone es = AllByRecursion IsReadAlone (groups (written_tokens texts es))

  -- the texts that a C compiler reads of a macro with these tokens
  abbrev pub macro_texts : List Token → List (List ℕ)
  macro_texts es =
      codes "#define"
      ∷ map (λ group. group_text texts group.items) (groups (written_tokens texts es))

-- Each macro of a web is read as these texts if each of its groups is read alone, and if no source
-- line has a line feed.
abbrev pub MacrosAreReadByGroups : SourceRead → WebRead → Type 0
MacrosAreReadByGroups source web =
    SourceLinesHaveNoLineFeed source.lines
    → AllZip (λ items es. GroupsAreReadAlone web.texts es
    → IsReadAsTexts (macro_texts web.texts es) (macro_bytes web.texts items))
    web.macros (all_macro_tokens source.lines)
