use Rattle.mesh_base.proofs.WalkSteps.{walk-start}
use Rattle.mesh_base.proofs.walk.live_faces.Goals as goal

pub returns : goal.returns
returns g c = rw (← walk-start (g.S.Surface.mesh c.args.mesh.now).faces (λ q h. ((g.met.S.Surface.sound c.args.mesh.now).is_mesh.face_ids q h).0)) c.live_faces_above.ensures
