use Rattle.std.proofs.Common.{rules, ap, map, ◌∙◌}
use Rattle.std.proofs.lemmas.Map.Steps.{set_value_same}
use Rattle.std.proofs.lemmas.Result.{on_ok_weaker, on_err_weaker}
use Rattle.tangle_files.specs.Table.{file_of}
use Rattle.tangle_files.proofs.TableLemmas.{map-set_value}
use Rattle.tangle_files.proofs.TableLemmas.{lines_of-entries}
use Rattle.tangle_files.proofs.splicing.splice_lines.Goals as goal

pub returns-in-Some-clause-ok : goal.returns-in-Some-clause-ok
returns-in-Some-clause-ok c =
    let w = c.splice_shared.new.shared in
    let set =
    ap (map file_of) (c.get_mut.follows.holds w).0 ∙ map-set_value c.args.file.now c.args.table.now.entries w in
    on_ok_weaker c.splice_shared.result (λ made. set ∙ search (rules, lines_of-entries)) c.splice_shared.ensures.ok

pub returns-in-Some-clause-err : goal.returns-in-Some-clause-err
returns-in-Some-clause-err c =
    let w = c.splice_shared.new.shared in
    let set =
    ap (map file_of) (c.get_mut.follows.holds w).0 ∙ map-set_value c.args.file.now c.args.table.now.entries w in
    on_err_weaker c.splice_shared.result (λ same. set ∙ search (rules, lines_of-entries, set_value_same))
    c.splice_shared.ensures.err
