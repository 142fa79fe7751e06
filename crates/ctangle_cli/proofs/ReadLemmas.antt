-- A C compiler reads the output files of plain tangling as the author wrote them.
use Rattle.std.proofs.Common.{arith}
use Rattle.std.proofs.Common.{rules}
use Rattle.std.proofs.lemmas.Bool.Decides.{nat_tests}
use Rattle.std.proofs.Common.{◌≡◌, ℕ, Bool, List, [], ◌∷◌, Option, None, Ok, Err, subst}
use Rattle.tangle_files.specs.Adding.{IsWithinLimits}
use Rattle.tangle_files.proofs.EditLimits.{IsWithinLimits-edited}
use Rattle.tangle_files.proofs.TableLemmas.{IsWithinLimits-none, IsWithinLimits-with_file}
use Rattle.tangle_files.specs.Edited.{edited, edited_all}
use Rattle.tangle_files.specs.Lines.{FileTable}
use Rattle.tangle_files.specs.Roles.{RolesRead}
use Rattle.tangle_files.specs.declared.edits.Edit.{Edit}
use Rattle.tangle_names.specs.NameTable.{table_of}
use Rattle.tangle_bodies.proofs.InsideLemmas.{table_inside}
use Rattle.tangle_c_tokens.specs.LineFeeds.{FilesHaveNoLineFeed}
use Rattle.tangle_c_lines.proofs.CountedLemmas.{file_counted}
use Rattle.tangle_c_lines.proofs.LowSources.{source_low}
use Rattle.tangle_c_tokens.proofs.FileLemmas.{file_is_read}
use Rattle.tangle_c_tokens.proofs.TableLemmas.{added_have, edited_have, source-has}
use Rattle.tangle_graph.proofs.OutputLemmas.{outputs_fit}
use Rattle.tangle_loading.specs.Loading.{Contents, Loaded, add_answer, load_of}
use Rattle.tangle_loading.proofs.RoundLemmas.{load_keeps}
use Rattle.tangle_session.specs.Edits.{list_refusal}
use Rattle.tangle_session.specs.Headline.{Call, Apply, ApplyAll, History, Started, Answered, IsAnswered}
use Rattle.tangle_session.specs.Headline.{source_at, web_at}
use Rattle.tangle_session.specs.Sessions.{SessionRead}
use Rattle.ctangle_cli.specs.Run.{Moment, StartsSession}
use Rattle.ctangle_cli.specs.WhatTheCompilerReads.{OutputsAreReadAsWritten, OutputsStayReadAsWritten, title_of_output}

-- no name and no line has a line feed, and the files are within the limits of tables
abbrev pub AreSound : FileTable → Type 0
AreSound files = FilesHaveNoLineFeed files × IsWithinLimits files

pub read-as-written : (files : FileTable) (roles : RolesRead) → AreSound files → OutputsAreReadAsWritten files roles
unfolding web_at source_at
read-as-written files roles sound output there =
    let source = source_at files roles in
    let web = web_at files roles in
    let node = title_of_output files roles output in
    let clear = source-has files roles sound.0 in
    let fit = outputs_fit web (table_of web) (table_inside web) roles.out output there in
    record {
      tokens = λ whole. file_is_read source roles.marks clear
          output.has_macros output.has_piece node whole.macros (λ is. (fit.there is, whole.pieces is));
      lines = λ full whole.
          rw full (file_counted source clear (source_low files roles sound.1) output.name
          output.has_macros output.has_piece node whole.macros (λ is. (fit.there is, whole.pieces is)));
    }

-- files that are loaded

abbrev IsSound : Loaded → Type 0
IsSound (Ok files) = AreSound files
IsSound (Err ending) = Unit {0}

answer-sound : (needed : Bool) (files : FileTable) (name : List ℕ) (answer : Option (List ℕ)) → AreSound files
    → IsSound (add_answer needed files name answer)
answer-sound needed files name answer sound = search (rules, added_have, IsWithinLimits-with_file)

load-sound : (contents : Contents) (roles : RolesRead) → IsSound (load_of contents roles).loaded
load-sound contents roles = load_keeps contents roles (λ load. IsSound load.loaded)
    (λ needed asked files name sound fresh. answer-sound needed files name (contents name) sound)
    (record { names = tt; lines = tt }, IsWithinLimits-none) (λ ending. tt)

pub started-sound : (roles : RolesRead) (old new : Moment) (session : SessionRead) → StartsSession roles old new session
    → AreSound session.files
started-sound roles old new session starts =
    rw starts.started.files_are
    (subst IsSound starts.loads.gives.0 (load-sound starts.loads.contents roles))

-- files that are edited

edits-sound : (files : FileTable) (roles : RolesRead) (edits : List Edit) → list_refusal files roles edits ≡ None
    → AreSound files → AreSound (edited_all files edits)
edits-sound files roles [] none sound = sound
edits-sound files roles (edit ∷ edits) none sound =
    let later = edits-sound (edited files edit) roles edits in
    grind (arith, nat_tests, later, edited_have, IsWithinLimits-edited)

call-sound : (before after : SessionRead) (call : Call) → IsAnswered before call after
    → AreSound before.files → AreSound after.files
call-sound before after (Apply edit (Ok done)) a now =
    rw a.1.files (edits-sound before.files before.roles (edit ∷ []) (grind (arith, a.0)) now)
call-sound before after (ApplyAll edits (Ok done)) a now =
    rw a.1.files (edits-sound before.files before.roles edits a.0 now)
call-sound before after (Apply edit (Err refusal)) a now = rw a.1 now
call-sound before after (ApplyAll edits (Err refused)) a now = rw a.1 now

history-sound : (files : FileTable) (roles : RolesRead) (calls : List Call) (session : SessionRead) → AreSound files
    → History files roles calls session → AreSound session.files
history-sound files roles calls session sound (Started is) = rw is.files_are sound
history-sound files roles calls session sound (Answered before call history answered) =
    call-sound before session call answered (history-sound files roles _ before sound history)

pub stay-read : (files : FileTable) (roles : RolesRead) → AreSound files → OutputsStayReadAsWritten files roles
stay-read files roles sound calls session history =
    read-as-written session.files session.roles (history-sound files roles calls session sound history)
