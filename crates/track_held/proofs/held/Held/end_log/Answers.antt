use Rattle.std.proofs.Common.{[], ◌∷◌, refl, inr}
use Rattle.log_text.specs.declared.LogLine.TheVariants.{End}
use Rattle.track_engine.specs.Engines.{state_in}
use Rattle.track_held.specs.Held.{engine_in}
use Rattle.track_held.proofs.held.Held.end_log.Goals as goal

pub returns-in-Err-clause-tells : goal.returns-in-Err-clause-tells
returns-in-Err-clause-tells g c =
    let s = state_in g.S.Surface.mesh g.S.Surface.kept (engine_in c.args.self.now) in
    inr (End ∷ [], s, refl, c.in-Err.ensures.says.written)
