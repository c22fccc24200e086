use Rattle.std.proofs.Common.{Err, rules}
use Rattle.outside_io.specs.declared.stop.Stop.TheVariants.{NoMemory}
use Rattle.track_engine.specs.Engines.{state_in}
use Rattle.track_held.specs.Fitting.{always}
use Rattle.log_write.specs.Kept.{told_in}
use Rattle.track_held.proofs.Fitted.{fit_too, fit_settled}
use Rattle.track_held.proofs.held.Held.fit.Goals as goal

pub returns-in-Ok-clause-tells : goal.returns-in-Ok-clause-tells
returns-in-Ok-clause-tells g c =
    let mesh = g.S.Surface.mesh in
    let kept = g.S.Surface.kept in
    fit_settled _ (always c.args.band) (λ p band h. search rules) (state_in mesh kept c.args.self.now.engine) (state_in mesh kept c.tell_fit.new.engine) (state_in mesh kept c.settle_outside_groups.new.self)
    (told_in c.args.self.now.log) (told_in c.tell_fit.new.log) _ c.settle_outside_groups.ensures.state c.in-Ok.ensures.tells

pub returns-in-Err-clause-tells : goal.returns-in-Err-clause-tells
returns-in-Err-clause-tells g c =
    let mesh = g.S.Surface.mesh in
    let kept = g.S.Surface.kept in
    fit_too _ (always c.args.band) (λ p band h. search rules) (state_in mesh kept c.args.self.now.engine) (state_in mesh kept c.tell_fit.new.engine)
    (told_in c.args.self.now.log) (told_in c.tell_fit.new.log) (Err NoMemory) c.in-Err.ensures.tells
