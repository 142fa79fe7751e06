use Rattle.std.proofs.Common.{rules}
use Rattle.std.proofs.lemmas.Result.{err_from_is_err_and}
use Rattle.tangle_files.specs.Lines.{FileTable}
use Rattle.tangle_files.specs.Roles.{RolesRead}
use Rattle.tangle_graph.specs.Affected.{EditedShapes}
use Rattle.tangle_graph.specs.Keeping.{IsEditOf}
use Rattle.tangle_session.specs.States.{AgreesWithFiles, IsAnalysisAt}
use Rattle.tangle_session.specs.declared.analysis.Analysis.{Analysis}
use Rattle.tangle_session.specs.declared.tangling.SessionState.{SessionState}
use Rattle.tangle_session.specs.Headline.{web_at}
use Rattle.tangle_session.specs.Sessions.{shapes_of}
use Rattle.tangle_session.proofs.tangling.tangle_again.Goals as goal

-- the shapes of the web before and after, to which the stores and the old expansions belong
abbrev edited : {old : SessionState} {new : Analysis} {files : FileTable} {roles to : RolesRead}
    → AgreesWithFiles old.files roles old → IsAnalysisAt files to new
    → (shapes : EditedShapes) × IsEditOf old.analysis.store new.store old.kept shapes
edited {old = old} {files = files} {roles = roles} {to = to} was made = (
  record { old = shapes_of (web_at old.files roles); new = shapes_of (web_at files to) },
  record { before = was.analysis.store.store; after = made.store.store; expansions = was.kept },
)

pub expand_again-requires-clause-new_shapes : goal.expand_again-requires-clause-new_shapes
expand_again-requires-clause-new_shapes c = rw c.deref.ensures.value c.in_ok-analysis.ensures.new_shapes

pub expand_again-requires-clause-edit : goal.expand_again-requires-clause-edit
expand_again-requires-clause-edit c = edited c.requires.agrees c.in_ok-analysis.ensures.made

pub returns-clause-agrees : goal.returns-clause-agrees
returns-clause-agrees c =
    let edit = edited c.requires.agrees c.in_ok-analysis.ensures.made in
    record {
      files_fit = c.in_ok-files.ensures.fits;
      analysis = c.in_ok-analysis.ensures.made;
      kept = c.in_ok-kept.ensures.kept edit.0 edit.1;
    }

pub returns-in_err-kept-clause-refused : goal.returns-in_err-kept-clause-refused
returns-in_err-kept-clause-refused c = search (rules, err_from_is_err_and)

pub returns-clause-work : goal.returns-clause-work
returns-clause-work c =
    let edit = edited c.requires.agrees c.in_ok-analysis.ensures.made in
    let made = c.in_ok-kept.ensures.work edit.0 edit.1 in
    rw (made.1, c.new-work.ensures)
    (record { once = made.2.once; just = rw c.in_ok-analysis.ensures.made.store.names at made.2.just })
