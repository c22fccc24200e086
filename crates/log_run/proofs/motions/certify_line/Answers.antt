use Rattle.log_run.proofs.motions.certify_line.Goals as goal

pub returns-in-Moved-clause-made : goal.returns-in-Moved-clause-made
returns-in-Moved-clause-made g c = rw c.in-Moved.is (c.certify_step.ensures c.in-Moved.field-0)
