use Rattle.std.proofs.Common.{rules}
use Rattle.std.specs.Prelude.{Err, Ok}
use Rattle.tangle_files.specs.declared.refusal.Refusal.TheVariants.{WriteFault}
use Rattle.tangle_session.proofs.TangleLemmas.{is_ready, names_apart, truth_at, writes_it, writes_none}
use Rattle.tangle_session.proofs.session.Session.write_output_at.Goals as goal

pub find_output_at-requires : goal.find_output_at-requires
find_output_at-requires g c = names_apart c.self.view_is c.self.invariant c.args.name.now

pub write_file-requires : goal.write_file-requires
write_file-requires g c =
    is_ready c.self.view_is c.self.invariant c.args.name.now _ c.find_output_at.ensures _
    c.in-Some.is

pub returns-in-Ok-clause-written : goal.returns-in-Ok-clause-written
returns-in-Ok-clause-written g c = writes_it c.self.view_is c.self.invariant c.args.name.now _
    c.find_output_at.ensures
    _ c.in-Some.is _ _ (Ok c.in-Ok.size) c.in-Ok.ensures

pub returns-in-Ok-clause-line_truth : goal.returns-in-Ok-clause-line_truth
returns-in-Ok-clause-line_truth g c = search (rules, truth_at)

pub returns-in-Err-clause-written : goal.returns-in-Err-clause-written
returns-in-Err-clause-written g c = writes_it c.self.view_is c.self.invariant c.args.name.now _
    c.find_output_at.ensures
    _ c.in-Some.is (g.S.Sink.stream c.args.sink.now) (g.S.Sink.stream c.write_file.new.sink)
    (Err (WriteFault c.in-Err.field-0.0)) c.in-Err.ensures

pub returns-in-None-clause-written : goal.returns-in-None-clause-written
returns-in-None-clause-written g c = search (rules, writes_none)
