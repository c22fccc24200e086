use Rattle.std.proofs.Common.{Err, rules}
use Rattle.outside_io.specs.declared.stop.Stop.TheVariants.{NoMemory}
use Rattle.track_engine.specs.Engines.{state_in}
use Rattle.track_held.specs.Tables.{by_cells}
use Rattle.log_write.specs.Kept.{told_in}
use Rattle.track_held.proofs.Fitted.{fit_too, fit_settled}
use Rattle.track_held.proofs.Tables.{gives_band}
use Rattle.track_held.proofs.held.Held.fit_by.Goals as goal

pub new-sizing-requires : goal.new-sizing-requires
new-sizing-requires g c =
    let table = c.args.table.now in
    record { asked = λ p. tt; bands = λ p band h. gives_band table.cells table.bands.now table.faultless p band h.1 }

pub tell_fit-requires-clause-sizing : goal.tell_fit-requires-clause-sizing
tell_fit-requires-clause-sizing g c =
    let table = c.args.table.now in
    rw c.new-sizing.ensures (record { asked = λ p. tt; bands = λ p band h. gives_band table.cells table.bands.now table.faultless p band h.1 })

pub returns-in-Ok-clause-tells : goal.returns-in-Ok-clause-tells
returns-in-Ok-clause-tells g c =
    let mesh = g.S.Surface.mesh in
    let kept = g.S.Surface.kept in
    let table = c.args.table.now in
    fit_settled _ (by_cells table.cells table.bands.now) (λ p band h. search rules) (state_in mesh kept c.args.self.now.engine) (state_in mesh kept c.tell_fit.new.engine) (state_in mesh kept c.settle_outside_groups.new.self)
    (told_in c.args.self.now.log) (told_in c.tell_fit.new.log) _ c.settle_outside_groups.ensures.state c.in-Ok.ensures.tells

pub returns-in-Err-clause-tells : goal.returns-in-Err-clause-tells
returns-in-Err-clause-tells g c =
    let mesh = g.S.Surface.mesh in
    let kept = g.S.Surface.kept in
    let table = c.args.table.now in
    fit_too _ (by_cells table.cells table.bands.now) (λ p band h. search rules) (state_in mesh kept c.args.self.now.engine) (state_in mesh kept c.tell_fit.new.engine)
    (told_in c.args.self.now.log) (told_in c.tell_fit.new.log) (Err NoMemory) c.in-Err.ensures.tells
