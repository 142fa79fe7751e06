use Rattle.std.proofs.Common.{◌≡◌, [], length, map, take, vec_capacity, vec_len}
use Rattle.tangle_files.specs.Lines.{FileTable}
use Rattle.tangle_files.specs.Roles.{RolesRead}
use Rattle.tangle_session.specs.Headline.{History, list_calls}
use Rattle.tangle_session.proofs.histories.apply_each.Given as goal

-- the lists passed so far, each with its answer, are a history, and the capacity is enough for all answers
abbrev pub invariant-loop-edits : goal.invariant-loop-edits
invariant-loop-edits l = record {
  counted : vec_len l.answers ≡ l.edits-index;
  answered : length l.answers.items ≡ l.edits-index;
  capacity : vec_capacity l.answers ≡ length l.lists;
  history : (files : FileTable) (roles : RolesRead) → History files roles [] l.fn.session
      → History files roles (list_calls (map (λ edits. edits.items) (take l.edits-index l.lists)) l.answers.items)
      l.session;
}
