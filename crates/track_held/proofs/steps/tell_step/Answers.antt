use Rattle.track_engine.specs.Engines.{state_in}
use Rattle.track_engine.specs.Told.{step_untold}
use Rattle.log_write.specs.Kept.{told_in}
use Rattle.track_held.proofs.Written.{step_writes}
use Rattle.track_held.proofs.steps.tell_step.Goals as goal

pub returns-clause-tells : goal.returns-clause-tells
returns-clause-tells g c =
    step_writes (state_in g.S.Surface.mesh g.S.Surface.kept c.args.engine.now) (state_in g.S.Surface.mesh g.S.Surface.kept c.step.new.self)
    (told_in c.args.log.now) (told_in c.step.new.outside) (step_untold c.step.result) c.step.ensures.takes
