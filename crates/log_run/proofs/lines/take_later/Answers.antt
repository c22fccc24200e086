use Rattle.log_run.proofs.lines.take_later.Goals as goal

pub returns-in-Step-clause-takes : goal.returns-in-Step-clause-takes
returns-in-Step-clause-takes c = rw c.in-Step.is (c.begin_step.ensures c.in-Step.k)

pub returns-in-Moved-clause-takes : goal.returns-in-Moved-clause-takes
returns-in-Moved-clause-takes c = rw c.in-Moved.is (c.end_step.ensures c.in-Moved.field-0)
