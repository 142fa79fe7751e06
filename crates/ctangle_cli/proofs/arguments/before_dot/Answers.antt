use Rattle.std.proofs.Common.{rules}
use Rattle.bstr.specs.Find.{is_byte}
use Rattle.ctangle_cli.proofs.NameLemmas.{past-last, past-none}
use Rattle.ctangle_cli.proofs.arguments.before_dot.Goals as goal

pub returns-in-Some : goal.returns-in-Some
returns-in-Some c = search (rules, past-last (is_byte 46))

pub returns-in-None : goal.returns-in-None
returns-in-None c = search (rules, past-none (is_byte 46))
