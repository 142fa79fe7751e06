use Rattle.std.proofs.Common.{rules}
use Rattle.std.proofs.lemmas.Bool.Decides.{nat_tests}
use Rattle.std.proofs.Common.{◌≡◌, [], ◌∷◌, ◌++◌, ◌∙◌, arith, append_assoc, append-nil, ap, sym}
use Rattle.std.proofs.Common.{option_to_list, List, Option, None, ◌≤◌, ◌<◌, ◌+◌, length}
use Rattle.std.specs.Option.{IfNone, IfSome}
use Rattle.tangle_lexer.specs.declared.tokens.Token.{Token}
use Rattle.tangle_text.specs.Text.{Cell}
use Rattle.tangle_lexer.specs.Runs.{unfolded}
use Rattle.tangle_lexer.specs.Steps.{tokens_from, occurrences_from}
use Rattle.tangle_scan.specs.Rules.{texts_of}
use Rattle.tangle_scan.proofs.scanning.gather.Goals as goal

pub next_block-requires-clause-ours : goal.next_block-requires-clause-ours
next_block-requires-clause-ours c = (0, c.new-reader.ensures.text)

-- each head has at least one cell
block-shorter : (text rest : List Cell) (next_head : Option Token)
    → IfSome next_head (λ head. length rest < length text) → IfNone next_head (rest ≡ [])
    → length (option_to_list next_head) + length rest ≤ length text
block-shorter text rest x some end = grind arith

pub loop-next_head-init : goal.loop-next_head-init
loop-next_head-init c =
    let texts = texts_of c.args.source.now.lines in
    let next = c.in_ok-state in
    let first = c.first_state-first.ensures in
    let all = next.ensures.tokens
    ∙ append_assoc (unfolded texts c.next_block.new.buffers.tokens.items)
    (option_to_list next.next_head) (tokens_from next.state c.next_block.new.reader) in
    search (rules, block-shorter)

pub loop-next_head-preserved : goal.loop-next_head-preserved
loop-next_head-preserved c =
    let next = c.in_ok-state-2.ensures in
    let was = c.loop-next_head.invariant in
    let head = c.in-Some.head in
    let block = unfolded (texts_of c.args.source.now.lines) c.next_block-in-Some.new.buffers.tokens.items in
    record {
      count = next.count;
      head = next.head;
      end = next.end;
      ours = next.ours;
      in_macro = next.in_macro;
      before = was.before ++ head ∷ block;
      gathered = search rules;
      tokens = append_assoc was.before (head ∷ block) _
          ∙ ap (λ ts. was.before ++ head ∷ ts) (sym (next.tokens ∙ append_assoc block _ _)) ∙ (rw c.in-Some.is at was.tokens);
      occurrences = next.occurrences ∙ was.occurrences;
      limit =
          let shorter = block-shorter _ _ _ next.shorter next.end in
          omega (arith, shorter, c.in_ok-add_block.ensures.sections, (rw c.in-Some.is at was.limit));
    }

nothing-ahead : (next_head : Option Token) (ahead : List Cell)
    → IfNone next_head (ahead ≡ []) → next_head ≡ None → ahead ≡ []
nothing-ahead next_head ahead end is = grind (arith, nat_tests)

pub returns-clause-builder : goal.returns-clause-builder
unfolding tokens_from
returns-clause-builder c = grind (arith, nat_tests, nothing-ahead, append-nil)

pub returns-clause-occurrences : goal.returns-clause-occurrences
unfolding occurrences_from
returns-clause-occurrences c = grind (arith, nat_tests, nothing-ahead, append-nil)
