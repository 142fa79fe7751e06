use Rattle.std.proofs.Common.{◌≡◌, ◌++◌, ℕ, List, length}
use Rattle.tangle_lexer.specs.declared.tokens.Token.{Token}
use Rattle.tangle_text.specs.Text.{Cell}
use Rattle.tangle_text.specs.Regions.{region_end}
use Rattle.tangle_lexer.specs.Quoted.{cut_tokens}
use Rattle.tangle_lexer.proofs.quoted.cut.Given as goal

abbrev pub invariant-loop-front : goal.invariant-loop-front
invariant-loop-front l = record {
  end : region_end l.region l.reader ≡ region_end l.region l.fn.reader;
  tokens : (ends : ℕ → List Cell → List Token)
      → l.tokens.items ++ cut_tokens ends l.region 0 l.start l.reader
      ≡ l.fn.tokens.items ++ cut_tokens ends l.region 0 l.first l.fn.reader;
}

abbrev pub decreases-loop-front : goal.decreases-loop-front
decreases-loop-front l = length l.reader
