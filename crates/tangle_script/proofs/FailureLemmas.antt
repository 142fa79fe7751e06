-- A run ends with status 3 only where something failed, or too much came.
use Rattle.std.proofs.Common.{rules}
use Rattle.std.proofs.lemmas.Bool.Decides.{nat_tests}
use Rattle.std.proofs.Common.{◌≡◌, ◌∙◌, ◌⊎◌, inl, inr, ℕ, ◌<◌, ◌≤◌, Bool, true, false, length, List}
use Rattle.std.proofs.Common.{[], ◌∷◌, ◌++◌, Option, Some, None, ap, subst}
use Rattle.std.proofs.Common.{length-append, arith}
use Rattle.std.specs.Prelude.{All}
use Rattle.std.specs.Io.KnownBytes.{Consumes}
use Rattle.std.proofs.lemmas.Grind.{common_steps}
use Rattle.std.proofs.lemmas.List.Elements.{All-tail}
use Rattle.tangle_streams.specs.Streams.{Failed}
use Rattle.tangle_script.specs.Requests.{Command, Request}
use Rattle.tangle_script.specs.Commands.{after_waiting_line, all_commands, commands_of, ended}
use Rattle.tangle_script.specs.Commands.{ended_commands, last_commands, pending, unended, waiting}
use Rattle.tangle_script.specs.Script.{Conversation, IsCut}
use Rattle.tangle_script.specs.Endings.{ConversationEnds, short_command, script_limit, status_by}
use Rattle.tangle_script.specs.Endings.ConversationEnds.{IsAtQuit, IsAtInputEnd, IsUnread}
use Rattle.tangle_script.specs.Endings.ConversationEnds.{IsTooLong, IsUnwritten, IsOutOfMemory}
use Rattle.tangle_script.specs.NothingRead.{NothingIsReadAndNothingFails}
use Rattle.tangle_script.specs.Short.{HasFailed, HasShortCommands, command_size}
use Rattle.tangle_script.proofs.CommandLemmas.{pending_waits, read_more, split}

pub small : (b : Bool) → status_by b < 3
small true = omega arith
small false = omega arith

-- the bytes that wait are no longer than the first command of those that come after them

abbrev first_size : List Command → ℕ
first_size [] = 0
first_size (c ∷ cs) = command_size c

abbrev later_commands : Option (List ℕ) → List ℕ → List ℕ → List Command
later_commands w u ys =
    commands_of w (ended u ys) ++ last_commands (waiting w (ended u ys)) (unended u ys)

fits_first : (w : Option (List ℕ)) (u ys : List ℕ)
    → length (after_waiting_line w u) ≤ first_size (later_commands w u ys)
fits_first None [] ys = omega arith
fits_first None (b ∷ bs) [] = omega arith
fits_first None (b ∷ bs) (y ∷ ys) = grind (arith, common_steps, fits_first (Some (b ∷ bs)) [] ys, fits_first None ((b ∷ bs) ++ y ∷ []) ys)
fits_first (Some h) [] [] = omega (arith, length-append h (10 ∷ []))
fits_first (Some h) (b ∷ bs) [] = omega (arith, length-append h (10 ∷ b ∷ bs))
fits_first (Some h) u (y ∷ ys) =
    grind (arith, common_steps, fits_first (Some h) (u ++ y ∷ []) ys)

first_fits : (cs ds : List Command) → All (λ c. command_size c ≤ short_command) (cs ++ ds)
    → first_size ds ≤ short_command
first_fits [] [] all = omega arith
first_fits [] (d ∷ ds) all = all 0 d (omega arith)
first_fits (c ∷ cs) ds all = first_fits cs ds (All-tail (λ c. command_size c ≤ short_command) c (cs ++ ds) all)

-- no more bytes wait than a short command has
pending_fits : (xs ys : List ℕ) → HasShortCommands (xs ++ ys) → length (pending xs) ≤ short_command
pending_fits xs ys short =
    let waits = pending_waits xs in
    let again = read_more (pending xs) ys waits in
    let all : all_commands (xs ++ ys) ≡ ended_commands xs ++ later_commands waits.head waits.last ys =
    (split xs ys).all
    ∙ (λ i. ended_commands xs ++ (again.commands i ++ last_commands (again.waits i) (again.rest i))) in
    let fits = first_fits (ended_commands xs) (later_commands waits.head waits.last ys)
    (subst (All (λ c. command_size c ≤ short_command)) all short) in
    omega (arith, fits_first waits.head waits.last ys, ap length waits.are)

-- the bytes are more than a script may have, or a command longer than a short one waits at their end
abbrev AreTooMany : List ℕ → Type 0
AreTooMany read = (script_limit < length read) ⊎ (short_command < length (pending read))

-- not where no byte was read
none_too_many : (script read : List ℕ) → Consumes (Some script) (Some script) read → AreTooMany read
    → ⊥
none_too_many script [] given (inl many) = omega arith
none_too_many script [] given (inr many) = omega arith
none_too_many script (b ∷ bs) given many = omega (arith, ap length given, length-append bs script)

-- where the commands are short, only if the script is longer than it may be
short_or_long : (script read : List ℕ) (after : Option (List ℕ)) → Consumes (Some script) after read
    → HasShortCommands script → AreTooMany read → script_limit < length script
short_or_long script read None given short many = absurd given
short_or_long script read (Some rest) given short (inl many) =
    search (rules, length-append)
short_or_long script read (Some rest) given short (inr many) =
    grind (arith, nat_tests, pending_fits read rest)

module _ {State : Type 0} (answers : State → Request → List ℕ → State → Type 0)
    (has_error : State → Bool → Type 0) (old new : Conversation State) where
  cut_fails : {commands : List Command} → IsCut answers old.exchange new.exchange commands
      → Failed old.exchange.stream.failures new.exchange.stream.failures
  cut_fails k = subst (λ n. Failed n new.exchange.stream.failures) k.goes_on.is_answered.written.1
      k.at_last.2.3

  -- the reader or the writer failed, or too many bytes were read
  cause : (Many : Type 0) → ((read : List ℕ) → Consumes old.remaining new.remaining read → AreTooMany read → Many)
      → ConversationEnds answers has_error old new 3
      → Failed old.reader_failures new.reader_failures
      ⊎ (Failed old.exchange.stream.failures new.exchange.stream.failures ⊎ Many)
  cause Many many (IsAtQuit read are answered status) = search rules
  cause Many many (IsAtInputEnd read are over on answered status) = search rules
  cause Many many (IsUnread read given within failed on status) = inl failed
  cause Many many (IsTooLong read more given full same on status) =
      inr (inr (many (read ++ more ∷ []) given (inl (omega (arith, length-append read (more ∷ []))))))
  cause Many many (IsUnwritten read are (inl early) status) = inr (inl (cut_fails early))
  cause Many many (IsUnwritten read are (inr late) status) = inr (inl (cut_fails late.2))
  cause Many many (IsOutOfMemory read are long on status) = inr (inr (many read are.given (inr long)))

  pub is_not_status_3 : NothingIsReadAndNothingFails old new
      → ConversationEnds answers has_error old new 3 → ⊥
  is_not_status_3 nothing ends = elim (cause ⊥ (λ read given many. search (rules, none_too_many)) ends) [
    | inl reader ↦ nothing.no_reader_failure reader
    | inr (inl writer) ↦ nothing.no_writer_failure writer
    | inr (inr impossible) ↦ impossible
  ]

  pub short_needs_no_memory : (script : List ℕ) → old.remaining ≡ Some script
      → HasShortCommands script
      → ConversationEnds answers has_error old new 3 → HasFailed old new script
  short_needs_no_memory script remaining short ends =
      cause (script_limit < length script) (λ read given many. search (rules, short_or_long)) ends
