-- Worked scripts: the requests of their commands, and how runs over them end.
use Rattle.std.proofs.Common.{arith, rules}
use Rattle.std.proofs.Common.{◌≡◌, ℕ, ◌+◌, Bool, true, false, List, [], ◌∷◌, None, Some, codes}
use Rattle.std.proofs.Common.{inl, map, refl, replicate, ◌++◌, nat_lt}
use Rattle.tangle_script.specs.Requests.{Command, Request, is_edit, request_of, takes_text}
use Rattle.tangle_script.specs.Requests.Request.{Insert, Replace, Remove, Create, Discard, Show}
use Rattle.tangle_script.specs.Requests.Request.{MarksFull, MarksNone, Begin, Commit, Cancel}
use Rattle.tangle_script.specs.Requests.Request.{Faults, Work, Quit, BadCommand}
use Rattle.tangle_script.specs.Commands.{all_commands, ended_commands, pending}
use Rattle.tangle_script.specs.Script.{AreAnswered, Conversation, conversation}
use Rattle.tangle_script.specs.Endings.{ConversationEnds}
use Rattle.tangle_script.specs.Endings.ConversationEnds.{IsAtQuit, IsUnread}

abbrev requests : List ℕ → List Request
requests script = map request_of (all_commands script)

record Requests : Type 0 where
  pub edits : requests (codes "insert 12 a b.w \n x \nreplace 1 a\n\nremove 999999999 a\ncreate a\ndiscard a\n")
      ≡ Insert 12 (codes "a b.w ") (codes " x ") ∷ Replace 1 (codes "a") [] ∷ Remove 999999999 (codes "a")
      ∷ Create (codes "a") ∷ Discard (codes "a") ∷ []
  pub words : requests (codes "marks full\nmarks none\nbegin\ncommit\ncancel\nshow a.c\nfaults\nwork\nquit\n")
      ≡ MarksFull ∷ MarksNone ∷ Begin ∷ Commit ∷ Cancel ∷ Show (codes "a.c") ∷ Faults ∷ Work ∷ Quit ∷ []
  pub empty_lines : requests (codes "\n\nwork\n\n") ≡ Work ∷ []
  pub no_line_feed_at_the_end : requests (codes "work\nquit") ≡ Work ∷ Quit ∷ []
  pub text_is_no_command : requests (codes "insert 1 a\nquit\nquit\n") ≡ Insert 1 (codes "a") (codes "quit") ∷ Quit ∷ []
  pub last_text : requests (codes "replace 1 a\nx") ≡ Replace 1 (codes "a") (codes "x") ∷ []
  pub no_text : requests (codes "insert 1 a\n") ≡ BadCommand ∷ []
  pub no_line_feed_and_no_text : requests (codes "replace 1 a") ≡ BadCommand ∷ []
  -- a malformed line takes a text, too, but not one without a space after its word
  pub malformed : requests (codes "insert 1\nwork\ninsert x a\nwork\nreplace \nwork\ninsert\nwork\n")
      ≡ BadCommand ∷ BadCommand ∷ BadCommand ∷ BadCommand ∷ Work ∷ []
  pub numbers : requests (codes "remove 0 a\nremove 007 a\n") ≡ Remove 0 (codes "a") ∷ Remove 7 (codes "a") ∷ []
  pub bad_numbers : requests (codes "remove 1234567890 a\nremove  1 a\nremove 1a\nremove 1\nremove a\n")
      ≡ replicate 5 BadCommand
  pub empty_names : requests (codes "remove 1 \ncreate \n") ≡ Remove 1 [] ∷ Create [] ∷ []
  pub no_commands : requests (codes "Work\n work\nwork \nmarks full \ncreate\nshow\nundo\n") ≡ replicate 7 BadCommand
  -- what a list of edits holds
  pub held : map is_edit (requests (codes "insert 1 a\n\nmarks full\nmarks none\nshow a\nfaults\nwork\nbegin\nundo\n"))
      ≡ true ∷ true ∷ true ∷ replicate 5 false
  -- what has been read may end in a line that waits for its text, and in a part of a line
  pub ended : map request_of (ended_commands (codes "work\ninsert 1 a\nte")) ≡ Work ∷ []
  pub waiting : pending (codes "work\ninsert 1 a\nte") ≡ codes "insert 1 a\nte"

requests_are : Requests
unfolding request_of takes_text
requests_are = search rules

-- a project that counts what it has answered, and has an error from the second answer on
abbrev answers : ℕ → Request → List ℕ → ℕ → Type 0
answers s request output t = (output ≡ codes "ok\n") × (t ≡ s + 1)

abbrev has_error : ℕ → Bool → Type 0
has_error s error = error ≡ nat_lt 1 s

-- after `count` answers, `written` is on the output and `left` of the script is not read
abbrev at : ℕ → List ℕ → List ℕ → Conversation ℕ
at count written left = conversation count (record { taken = Some written; failures = 0 }) (Some left) 0

abbrev Ends : List ℕ → Conversation ℕ → ℕ → Type 0
Ends script new status = ConversationEnds answers has_error (at 0 [] script) new status

answered : (s : ℕ) (written : List ℕ) (c : Command)
    → AreAnswered answers (at s written []).exchange (at (s + 1) (written ++ codes "ok\n") []).exchange (c ∷ [])
answered s written c = record {
  output = codes "ok\n";
  answered = (codes "ok\n", [], s + 1, inl (refl, refl), (refl, refl), refl);
  written = (refl, refl);
}

abbrev command : List ℕ → Command
command line = record { line = line; text = None }

-- a `quit` ends the run: what comes after it is not answered
at_quit : Ends (codes "work\nquit\nwork\n") (at 2 (codes "ok\nok\n") []) 1
unfolding request_of takes_text
at_quit = IsAtQuit (codes "work\nquit\nwork\n") (record { given = refl; within = omega arith; no_failure = refl })
    (record {
      front = command (codes "work") ∷ [];
      last = command (codes "quit");
      later = command (codes "work") ∷ [];
      are = refl;
      before = (at 1 (codes "ok\n") []).exchange;
      goes_on = record { is_answered = answered 0 [] (command (codes "work")); no_quit = refl };
      at_last = (refl, answered 1 (codes "ok\n") (command (codes "quit")));
    })
    (true, refl, refl)

-- where reading fails, only lines that have ended are answered
unread : Ends (codes "work\nwork") (record (at 1 (codes "ok\n") []) { reader_failures = 1 }) 3
unfolding request_of takes_text
unread = IsUnread (codes "work\nwork") refl (omega arith) (inl (omega arith))
    (record { no_quit = refl; is_answered = answered 0 [] (command (codes "work")) }) refl
