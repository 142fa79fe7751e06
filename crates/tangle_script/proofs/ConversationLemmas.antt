-- Dialogues that follow each other.
use Rattle.std.proofs.Common.{arith}
use Rattle.std.proofs.lemmas.Bool.Decides.{nat_tests}
use Rattle.std.proofs.Common.{rules}
use Rattle.std.proofs.Common.{◌≡◌, ◌∙◌, ℕ, true, false, length, List, [], ◌∷◌, ◌++◌}
use Rattle.std.proofs.Common.{◌≤◌, Option, ap, subst, sym, refl, append_assoc, length-append}
use Rattle.std.proofs.lemmas.List.{nil_from_length}
use Rattle.std.proofs.lemmas.List.Folds.{list_any-append}
use Rattle.tangle_streams.specs.Streams.{TakesAll}
use Rattle.tangle_streams.proofs.StreamLemmas.{Appends-append}
use Rattle.tangle_script.specs.Requests.{Command, Request, is_quit, request_of}
use Rattle.tangle_script.specs.Commands.{IsEnd, ended_commands, found_commands, is_no_command, pending}
use Rattle.tangle_script.specs.Script.{AreAnswered, Dialogue, Exchange, GoesOn, HasLast, IsAnswer, IsQuitAnswered}
use Rattle.tangle_script.specs.Turns.{EndsScript, ends_at}
use Rattle.tangle_script.proofs.CommandLemmas.{end_trans}
use Rattle.tangle_script.specs.declared.answering.End.{End}
use Rattle.tangle_script.specs.declared.answering.End.TheVariants.{Done, Failed as IsFailed}

pub found_one : (line : List ℕ) (text : Option (List ℕ)) → is_no_command line text ≡ false
    → found_commands line text ≡ record { line = line; text = text } ∷ []
found_one line text h = search rules

module _ {State : Type 0} (answers : State → Request → List ℕ → State → Type 0) where
  dialogue-append : (s t v : State) (cs ds : List Command) (a b : List ℕ)
      → Dialogue answers s cs a t → Dialogue answers t ds b v
      → Dialogue answers s (cs ++ ds) (a ++ b) v
  dialogue-append s t v [] ds a b h k =
      search rules
  dialogue-append s t v (c ∷ cs) ds a b h k = grind (arith, nat_tests, dialogue-append h.2 t v cs ds h.1 b h.4 k, append_assoc h.0 h.1 b)

module _ {State : Type 0} {answers : State → Request → List ℕ → State → Type 0} where
  pub goes_nowhere : (a : Exchange State) (commands : List Command) → commands ≡ [] → GoesOn answers a a commands
  goes_nowhere a commands none =
      subst (GoesOn answers a a) (sym none) (record { is_answered = search rules; no_quit = refl })

  pub then_answered : {a b c : Exchange State} {cs ds : List Command}
      → AreAnswered answers a b cs → AreAnswered answers b c ds → AreAnswered answers a c (cs ++ ds)
  then_answered {a} {b} {c} {cs} {ds} h k = record {
    output = h.output ++ k.output;
    answered = dialogue-append answers a.state b.state c.state cs ds h.output k.output h.answered k.answered;
    written = (
      Appends-append a.stream.taken b.stream.taken c.stream.taken h.output k.output h.written.0
          k.written.0,
      k.written.1 ∙ h.written.1,
    );
  }

  pub goes_on_then : {a b c : Exchange State} {cs ds : List Command}
      → GoesOn answers a b cs → GoesOn answers b c ds → GoesOn answers a c (cs ++ ds)
  goes_on_then {cs = cs} {ds = ds} h k = record {
    is_answered = then_answered h.is_answered k.is_answered;
    no_quit = search (rules, list_any-append, h.no_quit, k.no_quit);
  }

  module _ {way : Command → Exchange State → Exchange State → Type 0} {a b : Exchange State} where
    -- the run ends at one of some commands, between those that were answered before and later ones
    pub last_within : {c : Exchange State} {cs ds commands : List Command} (later : List Command)
        → commands ≡ cs ++ (ds ++ later) → GoesOn answers a b cs → HasLast answers way b c ds
        → HasLast answers way a c commands
    last_within {cs = cs} later are h k = record {
      front = cs ++ k.front;
      last = k.last;
      later = k.later ++ later;
      are = are ∙ ap (λ l. cs ++ (l ++ later)) k.are ∙ simp append_assoc;
      before = k.before;
      goes_on = goes_on_then h k.goes_on;
      at_last = k.at_last;
    }

    pub one_last : (commands : List Command) (c : Command) → commands ≡ c ∷ [] → way c a b
        → HasLast answers way a b commands
    one_last commands c one is = record {
      front = [];
      last = c;
      later = [];
      are = one;
      before = a;
      goes_on = goes_nowhere a [] refl;
      at_last = is;
    }

  -- the command of a line was answered
  module _ (a b : Exchange State) (commands : List Command) (c : Command) (one : commands ≡ c ∷ [])
      (output : List ℕ) (answer : IsAnswer answers a.state (request_of c) output b.state)
      (written : TakesAll a.stream b.stream output) where
    pub line_goes_on : is_quit (request_of c) ≡ false → GoesOn answers a b commands
    line_goes_on on = search rules

    pub line_quits : is_quit (request_of c) ≡ true → HasLast answers (IsQuitAnswered answers) a b commands
    line_quits quit = search (rules, one_last)

  -- a run ends at the last command of a script, of which there is at most one
  pub last_ends : (end : End) (a b : Exchange State) (line : List ℕ) (text : Option (List ℕ))
      → HasLast answers (ends_at answers end) a b (found_commands line text)
      → EndsScript answers end a b (found_commands line text)
  last_ends IsFailed a b line text k = k
  last_ends Done a b line text k =
      let few : length (found_commands line text) ≤ 1 = search rules in
      let last : k.later ≡ [] = nil_from_length k.later
      (omega (arith, few, ap length k.are, length-append k.front (k.last ∷ k.later))) in
      search (rules, then_answered)

-- the commands in some bytes, of which some are answered already

pub record IsUnder {State : Type 0} (answers : State → Request → List ℕ → State → Type 0)
    (old now : Exchange State) (bytes rest : List ℕ) : Type 0 where
  pub done : List Command
  pub is_end : IsEnd rest bytes
  pub commands : ended_commands bytes ≡ done ++ ended_commands rest
  pub pending_is : pending bytes ≡ pending rest
  pub goes_on : GoesOn answers old now done

pub under_at_first : {State : Type 0} (answers : State → Request → List ℕ → State → Type 0)
    (a : Exchange State) (bytes : List ℕ) → IsUnder answers a a bytes bytes
under_at_first answers a bytes = record
    { done = []; is_end = search rules; commands = refl; pending_is = refl; goes_on = goes_nowhere a [] refl }

module _ {State : Type 0} {answers : State → Request → List ℕ → State → Type 0}
    {a b : Exchange State} {bytes rest : List ℕ} (h : IsUnder answers a b bytes rest)
    (c : Exchange State) (found : List Command) (next : List ℕ)
    (commands : ended_commands rest ≡ found ++ ended_commands next) where
  all_done : ended_commands bytes ≡ h.done ++ (found ++ ended_commands next)
  all_done = h.commands ∙ ap (λ l. h.done ++ l) commands

  pub under_more : pending rest ≡ pending next
      → IsEnd next rest → GoesOn answers b c found → IsUnder answers a c bytes next
  under_more same is on = record {
    done = h.done ++ found;
    is_end = end_trans bytes rest next h.is_end is;
    commands = all_done ∙ sym (append_assoc h.done found (ended_commands next));
    pending_is = h.pending_is ∙ same;
    goes_on = goes_on_then h.goes_on on;
  }

  pub under_last : {way : Command → Exchange State → Exchange State → Type 0}
      → HasLast answers way b c found → HasLast answers way a c (ended_commands bytes)
  under_last k = last_within (ended_commands next) all_done h.goes_on k

pub ruleset line_answers = (goes_nowhere, line_quits, line_goes_on, one_last, found_one)

pub ruleset commands_under = (under_at_first, under_more)
