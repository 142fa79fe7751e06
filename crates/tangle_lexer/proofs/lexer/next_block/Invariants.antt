use Rattle.std.proofs.Common.{◌≡◌, ◌≤◌, ◌++◌, true, false, length, map}
use Rattle.std.specs.List.{list_any, All}
use Rattle.tangle_text.specs.Text.{texts_of, IsRestOf}
use Rattle.tangle_lexer.specs.declared.modes.Mode.TheVariants as mode
use Rattle.tangle_lexer.specs.Steps.{tokens_from, occurrences_from}
use Rattle.tangle_lexer.specs.Occurrences.{occurrence_of}
use Rattle.tangle_lexer.specs.Heads.{is_head}
use Rattle.tangle_lexer.specs.Runs.{unfolded, first_is_alone, IsRunIn}
use Rattle.tangle_lexer.proofs.lexer.next_block.Given as goal

abbrev pub invariant-loop-front : goal.invariant-loop-front
invariant-loop-front l = record {
  tokens : unfolded (texts_of l.source.lines) l.buffers.tokens.items ++ tokens_from l.state l.reader
      ≡ tokens_from l.fn.from l.fn.reader;
  ours : IsRestOf l.source.lines l.reader;
  runs : All (IsRunIn (texts_of l.source.lines)) l.buffers.tokens.items;
  alone : (l.fn.from.mode ≡ mode.CPart → ⊥) → first_is_alone l.buffers.tokens.items ≡ true;
  mode : l.state.mode ≡ mode.CPart → l.fn.from.mode ≡ mode.CPart;
  no_head : list_any is_head l.buffers.tokens.items ≡ false;
  occurrences : l.buffers.occurrences.items ++ map (occurrence_of l.source.lines) (occurrences_from l.state l.reader)
      ≡ l.fn.buffers.occurrences.items ++ map (occurrence_of l.source.lines) (occurrences_from l.fn.from l.fn.reader);
  count : l.state.occurrences ≡ length l.buffers.occurrences.items;
  shorter : length l.reader ≤ length l.fn.reader;
}

abbrev pub decreases-loop-front : goal.decreases-loop-front
decreases-loop-front l = length l.reader
