use Rattle.tangle_script.proofs.running.run_script.Goals as goal

pub returns-in-Done : goal.returns-in-Done
returns-in-Done g c = c.in-Done.ensures _ (c.status_at_end.ensures _)
