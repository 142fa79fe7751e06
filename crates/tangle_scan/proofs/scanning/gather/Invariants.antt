use Rattle.std.proofs.Common.{◌≡◌, ◌<◌, ◌^◌, ◌+◌, ◌++◌, ℕ, List, [], true, length, map, option_to_list, Some}
use Rattle.std.specs.Option.{IfSome, IfNone}
use Rattle.tangle_text.specs.Text.{IsRestOf}
use Rattle.tangle_lexer.specs.declared.modes.Mode.TheVariants as mode
use Rattle.tangle_lexer.specs.declared.tokens.Token.{Token}
use Rattle.tangle_lexer.specs.declared.tokens.Token.TheVariants as token
use Rattle.tangle_lexer.specs.Steps.{tokens_from, occurrences_from, all_tokens, all_occurrences}
use Rattle.tangle_lexer.specs.Heads.{is_head}
use Rattle.tangle_lexer.specs.Occurrences.{occurrence_of}
use Rattle.tangle_scan.specs.WebBuilder.{IsGathered}
use Rattle.tangle_scan.proofs.scanning.gather.Given as goal

abbrev pub invariant-loop-next_head : goal.invariant-loop-next_head
invariant-loop-next_head l = record {
  count : l.state.occurrences ≡ length l.buffers.occurrences.items;
  head : IfSome l.next_head (λ head. is_head head ≡ true);
  end : IfNone l.next_head (l.reader ≡ []);
  ours : IsRestOf l.source.lines l.reader;
  in_macro : (line : ℕ) → l.next_head ≡ Some (token.MacroStart line) → l.state.mode ≡ mode.Macro;
  before : List Token;
  gathered : IsGathered l.source before l.builder;
  tokens : before ++ (option_to_list l.next_head ++ tokens_from l.state l.reader) ≡ all_tokens l.source.lines;
  occurrences : l.buffers.occurrences.items ++ map (occurrence_of l.source.lines) (occurrences_from l.state l.reader)
      ≡ map (occurrence_of l.source.lines) (all_occurrences l.source.lines);
  limit : l.builder.sections + (length (option_to_list l.next_head) + length l.reader) < 2 ^ 63;
}

abbrev pub decreases-loop-next_head : goal.decreases-loop-next_head
decreases-loop-next_head l = length (option_to_list l.next_head) + length l.reader
