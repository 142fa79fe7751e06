use Rattle.std.proofs.Common.{◌∙◌, refl}
use Rattle.tangle_script.specs.Requests.Request.{Faults, Show}
use Rattle.tangle_session.specs.Headline.{faults_at, output_at}
use Rattle.tangle_session.proofs.HeadlineLemmas.{ends}
use Rattle.ctangle_cli.specs.Conversation.{listed_faults, shown}
use Rattle.ctangle_cli.proofs.AnswerLemmas.{is_reported}
use Rattle.ctangle_cli.proofs.laws.scripts_show_plain_tangling.Goals as goal

pub returns-clause-show : goal.returns-clause-show
returns-clause-show c = λ files roles calls s t name output history answered.
    let at = ends files roles calls s.session history in
    is_reported s.session (Show name) output refl s.draft t.draft answered.0 refl answered.1
    ∙ (λ i. shown name (output_at (at.files_are i) (at.roles_are i) name))

pub returns-clause-faults : goal.returns-clause-faults
returns-clause-faults c = λ files roles calls s t output history answered.
    let at = ends files roles calls s.session history in
    is_reported s.session Faults output refl s.draft t.draft answered.0 refl answered.1
    ∙ (λ i. listed_faults (faults_at (at.files_are i) (at.roles_are i)))
