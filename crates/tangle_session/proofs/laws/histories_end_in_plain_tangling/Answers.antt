use Rattle.tangle_session.specs.Headline.{faults_at, output_files}
use Rattle.tangle_session.proofs.HeadlineLemmas.{ends}
use Rattle.tangle_session.proofs.LawLemmas.{no_cycle, reported_in}
use Rattle.tangle_session.proofs.laws.histories_end_in_plain_tangling.Goals as goal

pub returns : goal.returns
returns c = record {
  ends = ends;
  shown = λ files roles calls session history.
      (let made = ends files roles calls session history in (
        λ i. output_files (made.files_are i) (made.roles_are i),
        λ i. faults_at (made.files_are i) (made.roles_are i),
      ));
  no_cycle = no_cycle;
  cycles = reported_in;
}
