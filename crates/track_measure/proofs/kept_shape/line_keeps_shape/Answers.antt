use Rattle.track_measure.proofs.ShapeKept.{other_answer}
use Rattle.track_measure.proofs.kept_shape.line_keeps_shape.Goals as goal

pub returns-in_default : goal.returns-in_default
returns-in_default g c = other_answer (g.S.Surface.mesh c.args.mesh.now) c.args.line.now c.in_default.not-Did c.in_default.not-Close
