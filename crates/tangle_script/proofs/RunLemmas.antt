-- A run while it goes on, and the ways in which it ends.
use Rattle.std.proofs.Common.{rules}
use Rattle.std.proofs.Common.{◌≡◌, ◌∙◌, inl, inr, ℕ, ◌<◌, ◌≤◌, ◌+◌, Bool, false, length, List}
use Rattle.std.proofs.Common.{[], ◌∷◌, ◌++◌, Option, get_or, ap, subst, sym, refl}
use Rattle.std.proofs.Common.{append_assoc, append-nil, length-append, arith}
use Rattle.std.proofs.lemmas.List.{nil_from_length}
use Rattle.std.specs.Io.KnownBytes.{Consumes, IsAtEnd, Keeps}
use Rattle.tangle_streams.specs.Streams.{one_more_failure}
use Rattle.tangle_streams.proofs.StreamLemmas.{Failed-one_more}
use Rattle.tangle_script.specs.Requests.{Request}
use Rattle.tangle_script.specs.Commands.{OnlyWaits, all_commands, ended_commands, pending}
use Rattle.tangle_script.specs.declared.answering.End.{End}
use Rattle.tangle_script.specs.declared.answering.End.TheVariants.{Done, Failed as IsFailed}
use Rattle.tangle_script.specs.Script.{AreAnswered, Conversation, Exchange, GoesOn, HasLast, has_quit}
use Rattle.tangle_script.specs.Endings.{AreRead, ConversationEnds, short_command, script_limit}
use Rattle.tangle_script.specs.Endings.ConversationEnds.{IsAtQuit, IsAtInputEnd, IsUnread}
use Rattle.tangle_script.specs.Endings.ConversationEnds.{IsTooLong, IsUnwritten, IsOutOfMemory}
use Rattle.tangle_script.specs.Turns.{EndsBy, EndsScript, IsMidway, ends_at}
use Rattle.tangle_script.proofs.CommandLemmas.{pending_waits, split}
use Rattle.tangle_script.proofs.ConversationLemmas.{goes_on_then, last_within, then_answered}

abbrev at : {State : Type 0} → Exchange State → Option (List ℕ) → ℕ → Conversation State
at answered remaining failures = record
    { exchange = answered; remaining = remaining; reader_failures = failures }

one_item : (xs : List ℕ) → length xs ≡ 1 → xs ≡ get_or xs 0 0 ∷ []
one_item (x ∷ []) one = refl
one_item xs one = absurd (omega arith)

module _ {State : Type 0} {answers : State → Request → List ℕ → State → Type 0}
    {old now : Conversation State} {p : List ℕ} {n : ℕ} (h : IsMidway answers old now p n) where
  pub waits_now : OnlyWaits p
  waits_now = subst OnlyWaits (sym h.buffered_is) (pending_waits h.read)

  -- memory ran out while a command was read that is longer than a short one
  pub ends_out_of_memory : {has_error : State → Bool → Type 0} → short_command < length p
      → ConversationEnds answers has_error old now 3
  ends_out_of_memory long =
      IsOutOfMemory h.read h.are_read
      (subst (λ (l : List ℕ). short_command < length l) h.buffered_is long) h.goes_on refl

  -- the reader failed
  pub ends_unread : {has_error : State → Bool → Type 0} (remaining : Option (List ℕ)) (failures : ℕ)
      → Keeps now.remaining remaining → failures ≡ one_more_failure now.reader_failures
      → ConversationEnds answers has_error old (at now.exchange remaining failures) 3
  ends_unread remaining failures keeps counted =
      IsUnread h.read (search (rules, keeps, h.are_read.given)) h.are_read.within
      (search (rules, Failed-one_more, counted, h.are_read.no_failure)) h.goes_on refl

  -- a chunk of `k` bytes was read, so that `buffered` is in the buffer
  module _ (q buffered : List ℕ) (k : ℕ) (remaining : Option (List ℕ)) (kept : q ≡ p)
      (given : (chunk : List ℕ) × (length chunk ≡ k) × (buffered ≡ q ++ chunk)
      × Consumes now.remaining remaining chunk × (k ≡ 0 → IsAtEnd remaining)) where
    abbrev chunk : List ℕ
    chunk = given.0

    pub waits_last : k ≡ 0 → OnlyWaits buffered
    waits_last none =
        let size = given.1 in let is = given.2 in search (rules, nil_from_length, waits_now)

    whole : pending h.read ++ chunk ≡ buffered
    whole = ap (λ q. q ++ chunk) (sym (kept ∙ h.buffered_is)) ∙ sym given.2

    commands : ended_commands (h.read ++ chunk) ≡ ended_commands h.read ++ ended_commands buffered
    commands = (split h.read chunk).commands ∙ ap (λ q. ended_commands h.read ++ ended_commands q) whole

    ended : ended_commands (h.read ++ chunk) ≡ ended_commands h.read ++ (ended_commands buffered ++ [])
    ended = commands ∙ ap (λ l. ended_commands h.read ++ l) (sym (append-nil (ended_commands buffered)))

    all : all_commands (h.read ++ chunk) ≡ ended_commands h.read ++ all_commands buffered
    all = (split h.read chunk).all ∙ ap (λ q. ended_commands h.read ++ all_commands q) whole

    given_so_far : Consumes old.remaining remaining (h.read ++ chunk)
    given_so_far = search (rules, append_assoc, h.are_read.given, given.3)

    module _ (failures : ℕ) (same : failures ≡ now.reader_failures) where
      -- more bytes came than a script may have
      pub ends_too_long : {has_error : State → Bool → Type 0} → n ≡ script_limit → k ≡ 1
          → ConversationEnds answers has_error old (at now.exchange remaining failures) 3
      ends_too_long full one =
          IsTooLong h.read (get_or chunk 0 0)
          (subst (λ l. Consumes old.remaining remaining (h.read ++ l)) (one_item chunk (given.1 ∙ one)) given_so_far)
          (h.counted ∙ full) (same ∙ h.are_read.no_failure) h.goes_on refl

    module _ (failures : ℕ) (same : failures ≡ now.reader_failures) (short : n + k ≤ script_limit)
        (b : Exchange State) where
      more_read : AreRead old (at b remaining failures) (h.read ++ chunk)
      more_read = record {
        given = given_so_far;
        within = let size = given.1 in omega (arith, length-append h.read chunk);
        no_failure = same ∙ h.are_read.no_failure;
      }

      -- its commands were answered
      pub midway_more : (rest : List ℕ)
          → GoesOn answers now.exchange b (ended_commands buffered) → rest ≡ pending buffered
          → IsMidway answers old (at b remaining failures) rest (n + k)
      midway_more rest on are = record {
        read = h.read ++ chunk;
        are_read = more_read;
        counted = let size = given.1 in omega (arith, length-append h.read chunk);
        goes_on = subst (GoesOn answers old.exchange b) (sym commands) (goes_on_then h.goes_on on);
        buffered_is = are ∙ ap pending (sym whole) ∙ sym (split h.read chunk).pending_are;
      }

      module _ (has_error : State → Bool → Type 0) where
        -- the run ended at one of its commands
        pub ends_more : (end : End) → HasLast answers (ends_at answers end) now.exchange b (ended_commands buffered)
            → EndsBy answers has_error end old (at b remaining failures)
        ends_more Done last = λ status. IsAtQuit (h.read ++ chunk) more_read (last_within [] ended h.goes_on last)
        ends_more IsFailed last =
            IsUnwritten (h.read ++ chunk) more_read (inl (last_within [] ended h.goes_on last)) refl

        -- it is empty, since the script is at its end
        module _ (none : k ≡ 0) where
          on : has_quit (ended_commands (h.read ++ chunk)) ≡ false
          on = search (rules, nil_from_length)

          -- the last command was answered
          pub ends_last : (end : End)
              → EndsScript answers end now.exchange b (all_commands buffered)
              → EndsBy answers has_error end old (at b remaining failures)
          ends_last Done last = λ status is. IsAtInputEnd (h.read ++ chunk) more_read (given.4 none) on
              (subst (AreAnswered answers old.exchange b) (sym all) (then_answered h.goes_on.is_answered last)) is
          ends_last IsFailed last =
              let cut = last_within [] (all ∙ ap (λ l. ended_commands h.read ++ l) (sym (append-nil _))) h.goes_on last in
              IsUnwritten (h.read ++ chunk) more_read (inr (given.4 none, on, cut)) refl
