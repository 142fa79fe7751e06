use Rattle.std.proofs.Common.{arith}
use Rattle.std.proofs.lemmas.Bool.Decides.{nat_tests}
use Rattle.tangle_files.proofs.TableLemmas.{map-insert_entry}
use Rattle.tangle_files.proofs.splicing.create_file.Goals as goal

pub returns-clause-ok : goal.returns-clause-ok
returns-clause-ok c =
    grind (arith, nat_tests, map-insert_entry c.args.table.now.entries c.in_ok-name.name c.in_ok-lines.lines)
