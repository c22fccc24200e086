use Rattle.track_measure.proofs.ShapeKept.{collapse_kept}
use Rattle.track_measure.proofs.kept_shape.edit_keeps_shape.Goals as goal

pub returns : goal.returns
returns g c = collapse_kept (g.S.Surface.mesh c.args.mesh.now) c.args.change.now c.collapse_keeps_shape.result c.collapse_keeps_shape.ensures.kept
