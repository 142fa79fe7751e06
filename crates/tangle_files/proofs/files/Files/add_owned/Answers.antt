use Rattle.std.proofs.Common.{arith, rules}
use Rattle.std.proofs.lemmas.Bool.Decides.{nat_tests}
use Rattle.tangle_files.proofs.TableLemmas.{map-insert_entry, IsWithinLimits-with_file}
use Rattle.tangle_files.proofs.files.Files.add_owned.Goals as goal

pub returns-clause-ok : goal.returns-clause-ok
returns-clause-ok c =
    grind (arith, nat_tests, map-insert_entry c.self.inside.table.entries c.in_ok-name.name c.in_ok-lines-2.lines)

pub invariant_of-self-2 : goal.invariant_of-self-2
invariant_of-self-2 c =
    rw (returns-clause-ok c)
    (IsWithinLimits-with_file c.args.self.now c.args.name.now c.args.bytes.items
    (search rules) (rw (← c.self.view_is) c.self.invariant))
