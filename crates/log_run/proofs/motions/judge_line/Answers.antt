use Rattle.log_run.proofs.motions.judge_line.Goals as goal

pub returns-in-Moved-clause-verdict : goal.returns-in-Moved-clause-verdict
returns-in-Moved-clause-verdict g c = rw c.in-Moved.is (c.judge_step.ensures c.in-Moved.field-0)
