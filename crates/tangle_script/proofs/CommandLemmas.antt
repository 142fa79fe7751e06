-- Laws of reading: the lines and commands of a script that is read in pieces.
use Rattle.std.proofs.Common.{rules}
use Rattle.std.proofs.lemmas.Bool.Decides.{nat_tests}
use Rattle.std.proofs.Common.{◌≡◌, ◌∙◌, ℕ, ◌<◌, ◌==◌, true, false, cond, suc, length}
use Rattle.std.proofs.Common.{take, drop, take-append-drop, get_or, List, [], ◌∷◌, ◌++◌, Option}
use Rattle.std.proofs.Common.{Some, None, ap, subst, sym, refl, append_assoc, append-nil, arith}
use Rattle.std.proofs.Common.{drop-cons, length-drop, ◌-◌}
use Rattle.std.specs.Prelude.{nat_lt}
use Rattle.std.proofs.lemmas.List.{get_or-take, length-take-le, nil_from_length, drop-drop}
use Rattle.std.proofs.lemmas.Grind.{common_steps}
use Rattle.tangle_script.specs.Requests.{takes_text}
use Rattle.tangle_script.specs.Commands.{IsEnd, OnlyWaits, Waits, after_waiting_line, all_commands}
use Rattle.tangle_script.specs.Commands.{commands_of, ended, ended_commands, found_commands}
use Rattle.tangle_script.specs.Commands.{last_text, pending, unended, waiting}

-- more bytes, and more lines

ended-append : (u xs ys : List ℕ) → ended u (xs ++ ys) ≡ ended u xs ++ ended (unended u xs) ys
ended-append u [] ys = refl
ended-append u (x ∷ xs) ys = search (arith, ended-append [] xs ys, ended-append (u ++ x ∷ []) xs ys)

unended-append : (u xs ys : List ℕ) → unended u (xs ++ ys) ≡ unended (unended u xs) ys
unended-append u [] ys = refl
unended-append u (x ∷ xs) ys =
    search (arith, unended-append [] xs ys, unended-append (u ++ x ∷ []) xs ys)

lines-append : (w : Option (List ℕ)) (ls ms : List (List ℕ))
    → (commands_of w (ls ++ ms) ≡ commands_of w ls ++ commands_of (waiting w ls) ms)
    × (waiting w (ls ++ ms) ≡ waiting (waiting w ls) ms)
lines-append w [] ms = (refl, refl)
lines-append None (l ∷ ls) ms =
    grind (arith, common_steps, lines-append (Some l) ls ms, lines-append None ls ms)
lines-append (Some h) (l ∷ ls) ms =
    grind (arith, nat_tests, lines-append None ls ms)

-- bytes without a line feed

pub no_feed : (u v xs : List ℕ) → ended v xs ≡ [] → (ended u xs ≡ []) × (unended u xs ≡ u ++ xs)
no_feed u v [] e = (refl, sym (append-nil u))
no_feed u v (x ∷ xs) e =
    grind (arith, common_steps, no_feed (u ++ x ∷ []) (v ++ x ∷ []) xs)

-- bytes after an unended line
after_line : (u ys : List ℕ) → ended [] u ≡ []
    → (ended [] (u ++ ys) ≡ ended u ys) × (unended [] (u ++ ys) ≡ unended u ys)
after_line u ys e = search (rules, no_feed, ended-append, unended-append)

no_feed_more : (u : List ℕ) (x : ℕ) → ended [] u ≡ [] → (x == 10) ≡ false
    → ended [] (u ++ x ∷ []) ≡ []
no_feed_more u x e other = (after_line u (x ∷ []) e).0 ∙ ap (λ b. cond b (u ∷ []) []) other

-- what waits after more bytes is a line that takes a text, and bytes without a line feed
waits_after : (w : Option (List ℕ)) (u xs : List ℕ) → Waits w → ended [] u ≡ []
    → Waits (waiting w (ended u xs)) × (ended [] (unended u xs) ≡ [])
waits_after w u [] h e = (h, e)
waits_after None u (x ∷ xs) h e = grind (arith, waits_after (Some u) [] xs, waits_after None [] xs tt refl, waits_after None (u ++ x ∷ []) xs tt, no_feed_more u x e)
waits_after (Some l) u (x ∷ xs) h e = grind (arith, waits_after None [] xs tt refl, waits_after (Some l) (u ++ x ∷ []) xs h, no_feed_more u x e)

pub pending_waits : (xs : List ℕ) → OnlyWaits (pending xs)
pending_waits xs = search (rules, waits_after)

-- bytes that wait are read again, and more bytes after them

-- the bytes are read as the unended line `u` after the waiting line `w`, with `ys` after it
pub record AreReadAfter (w : Option (List ℕ)) (u ys bytes : List ℕ) : Type 0 where
  pub commands : ended_commands bytes ≡ commands_of w (ended u ys)
  pub waits : waiting None (ended [] bytes) ≡ waiting w (ended u ys)
  pub rest : unended [] bytes ≡ unended u ys

read_after : (w : Option (List ℕ)) (u ys : List ℕ) → Waits w → ended [] u ≡ []
    → AreReadAfter w u ys (after_waiting_line w u ++ ys)
read_after None u ys h e =
    grind (arith, nat_tests, after_line u ys e)
read_after (Some l) u ys h e =
    grind (arith, nat_tests, after_line u ys e, after_line l (10 ∷ (u ++ ys)) h.0, append_assoc l (10 ∷ u) ys)

pub read_more : (bytes ys : List ℕ) (h : OnlyWaits bytes)
    → AreReadAfter h.head h.last ys (bytes ++ ys)
read_more bytes ys h =
    subst (λ bs. AreReadAfter h.head h.last ys (bs ++ ys)) (sym h.are)
    (read_after h.head h.last ys h.waits h.no_feed)

-- The laws: each command that has ended is answered, and the pending bytes come before those that are read next.
pub record IsSplit (xs ys : List ℕ) : Type 0 where
  pub commands : ended_commands (xs ++ ys) ≡ ended_commands xs ++ ended_commands (pending xs ++ ys)
  pub pending_are : pending (xs ++ ys) ≡ pending (pending xs ++ ys)
  pub all : all_commands (xs ++ ys) ≡ ended_commands xs ++ all_commands (pending xs ++ ys)

pub split : (xs ys : List ℕ) → IsSplit xs ys
split xs ys =
    let after = waits_after None [] xs tt refl in
    grind (arith, nat_tests, read_after, ended-append, lines-append None, unended-append, append_assoc)

-- all bytes wait if some at the front wait, and those after them have no line feed
pub waits_in : (n : ℕ) (xs : List ℕ) → OnlyWaits (take n xs)
    → nat_lt 0 (length (ended [] (drop n xs))) ≡ false
    → (ended_commands xs ≡ []) × (pending xs ≡ xs)
waits_in n xs waits none =
    let again = read_more (take n xs) (drop n xs) waits in
    rw (← take-append-drop n xs) (search (rules, no_feed, nil_from_length, append_assoc))

-- the first line of some bytes

pub line_none : (u bs : List ℕ) → ((k : ℕ) → k < length bs → (get_or bs k 0 == 10) ≡ false)
    → ended u bs ≡ []
line_none u [] none = refl
line_none u (b ∷ bs) none =
    let later = line_none (u ++ b ∷ []) bs (λ k l. none (suc k) (omega arith)) in
    grind (arith, none 0 (omega arith))

pub line_at : (bs : List ℕ) (i : ℕ) → i < length bs
    → ((k : ℕ) → k < i → (get_or bs k 0 == 10) ≡ false) → get_or bs i 0 ≡ 10
    → (ended [] bs ≡ take i bs ∷ ended [] (drop (suc i) bs))
    × (unended [] bs ≡ unended [] (drop (suc i) bs)) × (bs ≡ take i bs ++ 10 ∷ drop (suc i) bs)
    × IsEnd (drop (suc i) bs) bs × (length (drop (suc i) bs) < length bs)
line_at bs i less before at =
    let line = take i bs in
    let rest = drop (suc i) bs in
    let whole : bs ≡ line ++ 10 ∷ rest = search (rules, take-append-drop, drop-cons) in
    let size = length-drop (suc i) bs in
    let lines : (ended [] bs ≡ line ∷ ended [] rest) × (unended [] bs ≡ unended [] rest) =
    grind (arith, nat_tests, after_line line, line_none, length-take-le i bs, get_or-take i bs) in
    let left : suc i ≡ length bs - length rest = omega arith in
    (lines.0, lines.1, whole, (omega arith, ap (λ n. drop n bs) left), omega arith)

pub end_trans : (bytes mid rest : List ℕ) → IsEnd mid bytes → IsEnd rest mid → IsEnd rest bytes
end_trans bytes mid rest h k = (
  omega arith,
  k.1 ∙ ap (drop (length mid - length rest)) h.1 ∙ drop-drop (length mid - length rest) _ bytes
      ∙ ap (λ n. drop n bytes) (omega arith),
)

-- the command at the end of a script

texted : (l t : List ℕ) → takes_text l ≡ true
    → record { line = l; text = last_text t } ∷ [] ≡ found_commands l (last_text t)
unfolding takes_text
texted l t h = search rules

pub last_with_text : (bytes line text : List ℕ) → OnlyWaits bytes
    → ended [] bytes ≡ line ∷ ended [] text → unended [] bytes ≡ unended [] text
    → all_commands bytes ≡ found_commands line (last_text text)
last_with_text bytes line text waits e f = search (rules, after_line, no_feed, texted)
