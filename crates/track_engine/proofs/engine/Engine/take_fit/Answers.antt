use Rattle.outside_io.specs.Outside.{written_of}
use Rattle.mesh_sizing.specs.Sizes.{MayAnswer}
use Rattle.track_engine.specs.Engines.{state_in}
use Rattle.track_engine.proofs.FitTaken.{fit_untold}
use Rattle.track_engine.proofs.engine.Engine.take_fit.Goals as goal

pub returns-clause-fits : goal.returns-clause-fits
returns-clause-fits g c =
    let state = state_in g.S.Surface.mesh g.S.Surface.kept in
    rw c.pass_untold.ensures (fit_untold (MayAnswer g.G.Fn c.args.sizing.now) (state c.args.self.now) (state c.fit-told.new.self) (written_of (g.O.Outside.around c.args.outside.now)) (written_of (g.O.Outside.around c.fit-told.new.outside)) c.fit-told.result c.fit-told.ensures.fits)

pub returns-clause-nothing_stored : goal.returns-clause-nothing_stored
returns-clause-nothing_stored g c = rw c.pass_untold.ensures c.fit-told.ensures.nothing_stored

pub returns-clause-marks : goal.returns-clause-marks
returns-clause-marks g c = c.fit-told.ensures.marks

pub returns-clause-begins : goal.returns-clause-begins
returns-clause-begins g c = c.fit-told.ensures.begins
