use Rattle.std.proofs.Common.{◌∙◌}
use Rattle.track_held.proofs.Closed.{closes}
use Rattle.track_held.proofs.held.Held.closing.Goals as goal

pub returns : goal.returns
returns g c =
    let engine = c.args.self.now.engine in
    c.closing_by.ensures ∙ closes (g.S.Surface.kept engine.mesh) engine.run.groups c.has_failed.result c.has_failed.ensures
