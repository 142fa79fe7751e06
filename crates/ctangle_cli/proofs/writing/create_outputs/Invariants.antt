use Rattle.std.proofs.Common.{◌≡◌}
use Rattle.std.specs.Iterator.Adapters.{enumerate_source}
use Rattle.tangle_session.specs.Headline.{output_files}
use Rattle.ctangle_cli.proofs.WriteLemmas.{HasWritten}
use Rattle.ctangle_cli.proofs.writing.create_outputs.Given as goal

abbrev pub invariant-loop-index : goal.invariant-loop-index
invariant-loop-index g l = record {
  written : HasWritten (output_files l.session.files l.session.roles) (g.F.Folder.state l.initial.folder).created
      (g.F.Folder.state l.folder).created (enumerate_source l.index-iterator);
  unfailed : (g.F.Folder.state l.folder).failures ≡ (g.F.Folder.state l.initial.folder).failures;
  asked_stay : (g.F.Folder.state l.folder).asked ≡ (g.F.Folder.state l.initial.folder).asked;
  failed_stay : (g.F.Folder.state l.folder).failed ≡ (g.F.Folder.state l.initial.folder).failed;
}
