use Rattle.std.proofs.Common.{rules}
use Rattle.std.proofs.Common.{ap, length, sym}
use Rattle.std.specs.Option.{option_map}
use Rattle.tangle_session.proofs.TangleLemmas.{is_its, is_ready, none_at}
use Rattle.tangle_session.proofs.session.Session.output_size.Goals as goal

pub file_size-requires : goal.file_size-requires
file_size-requires c =
    is_ready c.self.view_is c.self.invariant c.args.name.now _ c.find_output.ensures _ c.in-Some.is

pub returns-in-Some : goal.returns-in-Some
returns-in-Some c = (let its = is_its c.self.view_is c.self.invariant c.args.name.now _
    c.find_output.ensures _ c.in-Some.is in search rules)

pub returns-in-None : goal.returns-in-None
returns-in-None c = ap (option_map length)
    (sym (none_at c.self.view_is c.self.invariant c.args.name.now _ c.find_output.ensures
    c.in-None.is))
