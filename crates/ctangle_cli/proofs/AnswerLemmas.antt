-- Answers to the requests of a script: an output that is shown, an edit, and a question.
use Rattle.std.proofs.Common.{rules}
use Rattle.std.proofs.Common.{◌≡◌, ℕ, List, Option, None, Some, Err, length, codes}
use Rattle.std.specs.Prelude.{false, true}
use Rattle.std.specs.Option.{option_map}
use Rattle.tangle_streams.specs.Streams.{Stream, TakesPrefix}
use Rattle.tangle_files.specs.declared.edits.Edit.{Edit}
use Rattle.tangle_files.specs.declared.refusal.Refusal.{Refusal}
use Rattle.tangle_script.specs.Requests.{Request, is_edit}
use Rattle.tangle_session.specs.Headline.{Call}
use Rattle.tangle_session.specs.Sessions.{SessionRead}
use Rattle.tangle_session.specs.Writes.{WritesOut}
use Rattle.ctangle_cli.specs.Conversation.{IsReply, Reports, is_of_list, request_for, shown}
use Rattle.ctangle_cli.specs.Conversation.IsReply.{IsEdit, IsHeld, IsOpened, IsCommitted, IsDropped, IsReported}

pub none_is_shown : (name : List ℕ) (found : Option (List ℕ))
    → None ≡ option_map length found → shown name found ≡ codes "no NoOutput\n"
none_is_shown name found e = search rules

pub some_has_bytes : (found : Option (List ℕ)) (size : ℕ)
    → Some size ≡ option_map length found → (bytes : List ℕ) × (found ≡ Some bytes) × (length bytes ≡ size)
some_has_bytes found size e = search rules

-- an edit is asked for by requests for edits alone
asks_for_edit : (made : Edit) → is_edit (request_for made) ≡ true
asks_for_edit made = search rules

-- the output to a request that is neither for an edit nor of the open list is a report
module _ (session : SessionRead) (request : Request) (output : List ℕ) (no_edit : is_edit request ≡ false) where
  pub is_reported : (old new : Option (List Edit)) (calls : List Call) → is_of_list old request ≡ false
      → IsReply session request output old calls new → Reports session request output
  is_reported old new calls apart (IsReported draft none no_list reported) = reported
  is_reported old new calls apart (IsEdit made answer asked is) = cc (asks_for_edit made)
  is_reported old new calls apart (IsHeld held made asked is) = cc (asks_for_edit made)
  is_reported old new calls apart (IsOpened asked is) = search rules
  is_reported old new calls apart (IsCommitted held answer asked is) = search rules
  is_reported old new calls apart (IsDropped held asked is) = search rules

-- an output that was not written whole was written up to a prefix of its bytes
pub output_is_cut : (a b : Stream) (bytes : List ℕ) (refusal : Refusal)
    → WritesOut a b bytes (Err refusal) → TakesPrefix a b bytes
output_is_cut a b bytes refusal h = search rules
