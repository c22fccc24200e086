use Rattle.std.proofs.Common.{◌≡◌, drop}
use Rattle.std.specs.Prelude.{find}
use Rattle.mesh_base.specs.Sides.{faces_running}
use Rattle.mesh_rows.specs.Faults.{has_corners_at}
use Rattle.mesh_rows.proofs.face_test.equal_face.Given as goal

-- the first of all is the first of those that are left
abbrev pub invariant-loop-nth : goal.invariant-loop-nth
invariant-loop-nth g l =
    let m = g.S.Surface.mesh l.mesh in
    find (has_corners_at m l.c) (drop l.nth (faces_running m l.c.first l.c.second)) ≡ find (has_corners_at m l.c) (faces_running m l.c.first l.c.second)
