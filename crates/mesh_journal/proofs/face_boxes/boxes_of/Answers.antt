use Rattle.std.proofs.Common.{None, refl}
use Rattle.mesh_journal.proofs.Boxed.{none_boxed}
use Rattle.mesh_journal.proofs.face_boxes.boxes_of.Goals as goal

pub returns-in-Err : goal.returns-in-Err
returns-in-Err g c = none_boxed None (g.B.Surface.mesh c.args.mesh.now) refl
