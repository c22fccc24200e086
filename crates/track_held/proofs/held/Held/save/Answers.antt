use Rattle.std.proofs.Common.{◌+◌, [], ◌∷◌, refl, inr}
use Rattle.track_engine.specs.Engines.{state_in}
use Rattle.track_engine.specs.Effects.{mesh_line}
use Rattle.track_held.specs.Held.{engine_in}
use Rattle.track_held.proofs.held.Held.save.Goals as goal

pub returns-in-Ok-clause-tells : goal.returns-in-Ok-clause-tells
returns-in-Ok-clause-tells g c =
    let old = engine_in c.args.self.now in
    (mesh_line old.run.saved (g.S.Surface.mesh old.mesh) ∷ [], refl, c.in-Ok.ensures.written)

pub returns-in-Err-clause-tells : goal.returns-in-Err-clause-tells
returns-in-Err-clause-tells g c =
    let old = engine_in c.args.self.now in
    let s = state_in g.S.Surface.mesh g.S.Surface.kept old in
    inr (mesh_line s.saved s.mesh ∷ [], record s { saved = s.saved + 1 }, refl, c.in-Err.ensures.written)
