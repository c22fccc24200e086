use Rattle.outside_io.specs.declared.stop.Stop.TheVariants.{NoMemory}
use Rattle.track_engine.specs.Engines.{state_in}
use Rattle.track_engine.specs.Effects.{edited_lines, after_edits}
use Rattle.track_held.specs.Held.{engine_in, log_in}
use Rattle.track_held.proofs.Grouped.{forgotten}
use Rattle.track_held.proofs.held.Held.try_edits.Goals as goal

pub returns-clause-tells : goal.returns-clause-tells
returns-clause-tells g c =
    let mesh = g.S.Surface.mesh in
    let kept = g.S.Surface.kept in
    let asked = c.args.asked.now in
    let s = state_in mesh kept (engine_in c.args.self.now) in
    let t = state_in mesh kept (engine_in c.edits.new.self) in
    forgotten (edited_lines asked s) (after_edits asked s) t t (log_in c.args.self.now) (log_in c.edits.new.self) NoMemory c.in-Ok.ensures.tells
