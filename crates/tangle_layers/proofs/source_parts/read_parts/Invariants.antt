use Rattle.std.proofs.Common.{◌≡◌, ℕ, ◌+◌, length, option_to_list, Some}
use Rattle.tangle_lexer.specs.declared.modes.Mode.TheVariants as mode
use Rattle.tangle_lexer.specs.declared.tokens.Token.TheVariants as token
use Rattle.tangle_text.specs.Text.{IsRestOf}
use Rattle.tangle_layers.proofs.source_parts.read_parts.Given as goal

abbrev pub invariant-loop-next_head : goal.invariant-loop-next_head
invariant-loop-next_head l = record {
  count : l.state.occurrences ≡ length l.buffers.occurrences.items;
  ours : IsRestOf l.source.lines l.reader;
  in_macro : (line : ℕ) → l.next_head ≡ Some (token.MacroStart line) → l.state.mode ≡ mode.Macro;
}

abbrev pub decreases-loop-next_head : goal.decreases-loop-next_head
decreases-loop-next_head l = length (option_to_list l.next_head) + length l.reader
