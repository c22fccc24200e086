use Rattle.track_engine.specs.Engines.{state_in}
use Rattle.track_engine.specs.Told.{pass_untold}
use Rattle.log_write.specs.Kept.{told_in}
use Rattle.track_held.proofs.Written.{pass_writes}
use Rattle.track_held.proofs.steps.tell_pass.Goals as goal

pub returns-clause-tells : goal.returns-clause-tells
returns-clause-tells g c =
    pass_writes c.args.kind (state_in g.S.Surface.mesh g.S.Surface.kept c.args.engine.now) (state_in g.S.Surface.mesh g.S.Surface.kept c.pass.new.self)
    (told_in c.args.log.now) (told_in c.pass.new.outside) (pass_untold c.pass.result) c.pass.ensures.passes
