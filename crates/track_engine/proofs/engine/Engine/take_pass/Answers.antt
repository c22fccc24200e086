use Rattle.track_engine.proofs.engine.Engine.take_pass.Goals as goal

pub returns-clause-passes : goal.returns-clause-passes
returns-clause-passes g c = rw c.pass_untold.ensures c.pass-told.ensures.passes

pub returns-clause-nothing_stored : goal.returns-clause-nothing_stored
returns-clause-nothing_stored g c = rw c.pass_untold.ensures c.pass-told.ensures.nothing_stored

pub returns-clause-marks : goal.returns-clause-marks
returns-clause-marks g c = c.pass-told.ensures.marks

pub returns-clause-begins : goal.returns-clause-begins
returns-clause-begins g c = c.pass-told.ensures.begins
