use Rattle.track_engine.proofs.engine.Engine.take_step.Goals as goal

pub returns-clause-takes : goal.returns-clause-takes
returns-clause-takes g c = rw c.step_untold.ensures c.step-told.ensures.takes

pub returns-clause-left : goal.returns-clause-left
returns-clause-left g c = rw c.step_untold.ensures c.step-told.ensures.left

pub returns-clause-nothing_stored : goal.returns-clause-nothing_stored
returns-clause-nothing_stored g c = rw c.step_untold.ensures c.step-told.ensures.nothing_stored

pub returns-clause-marks : goal.returns-clause-marks
returns-clause-marks g c = c.step-told.ensures.marks

pub returns-clause-begins : goal.returns-clause-begins
returns-clause-begins g c = c.step-told.ensures.begins
