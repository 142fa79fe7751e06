use Rattle.std.proofs.Common.{arith}
use Rattle.std.proofs.lemmas.Bool.Decides.{nat_tests}
use Rattle.std.proofs.Common.{rules}
use Rattle.std.proofs.Common.{◌∙◌, None, inl, refl, sym}
use Rattle.tangle_loading.proofs.StepLemmas.{folder_is, is_absent, is_found, is_too_big, some_answer, step_answered}
use Rattle.tangle_loading.proofs.StepLemmas.{step_short}
use Rattle.tangle_loading.proofs.loading.read_once.Goals as goal

pub returns-in-Ok : goal.returns-in-Ok
returns-in-Ok g c =
    let said = c.in-Ok.ensures in
    rw c.in_ok-insert.ensures (step_answered _ _ _ _ _ _ (sym c.contains.ensures ∙ c.if-contains.false) _
    (is_found _ _ c.in-Ok.bytes said.answer)
    (folder_is said.files_stay said.created_stay said.asks said.fails said.counted) _ c.add_file.ensures)

pub returns-in-Err-Missing : goal.returns-in-Err-Missing
returns-in-Err-Missing g c =
    let said = rw c.in-Err-Missing.field-0-is at c.in-Err-Missing.ensures in
    rw (c.in_ok-insert.ensures, c.if-not-needed.true) (step_answered _ _ _ _ _ _ (sym c.contains.ensures ∙ c.if-contains.false) None (is_absent _ _ said.answer)
    (folder_is said.files_stay said.created_stay said.asks said.fails said.counted) _ (inl refl))

pub returns-in-Err-Missing-2 : goal.returns-in-Err-Missing-2
returns-in-Err-Missing-2 g c =
    let said = rw c.in-Err-Missing.field-0-is at c.in-Err-Missing.ensures in
    rw (c.in_ok-insert.ensures, c.if-not-needed.false) (step_answered _ _ _ _ _ _ (sym c.contains.ensures ∙ c.if-contains.false) None (is_absent _ _ said.answer)
    (folder_is said.files_stay said.created_stay said.asks said.fails said.counted) _
    c.cannot_read.ensures)

pub returns-in-Err-TooBig : goal.returns-in-Err-TooBig
returns-in-Err-TooBig g c =
    let said = rw c.in-Err-TooBig.field-0-is at c.in-Err-TooBig.ensures in
    let big = is_too_big (g.F.Folder.state c.args.folder.now).files c.args.needed c.args.files.now c.args.name.now
    said.answer in
    grind (arith, nat_tests, step_answered, folder_is)

pub returns-in-Err-NoMemory : goal.returns-in-Err-NoMemory
returns-in-Err-NoMemory g c =
    let said = rw c.in-Err-NoMemory.field-0-is at c.in-Err-NoMemory.ensures in
    let some = some_answer (g.F.Folder.state c.args.folder.now).files c.args.name.now in
    search (rules, step_short, folder_is, step_answered)
