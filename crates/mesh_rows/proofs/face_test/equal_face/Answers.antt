use Rattle.std.proofs.Common.{sym, ◌∙◌}
use Rattle.mesh_base.specs.Sides.{faces_running}
use Rattle.mesh_rows.specs.Faults.{has_corners_at}
use Rattle.mesh_rows.proofs.Searching.{found_at, found_past}
use Rattle.mesh_rows.proofs.face_test.equal_face.Goals as goal

pub returns-in-Some : goal.returns-in-Some
returns-in-Some g c =
    let m = g.S.Surface.mesh c.args.mesh.now in
    sym (found_at (has_corners_at m c.args.c.now) (faces_running m c.args.c.now.first c.args.c.now.second) c.loop-nth.nth c.in-Some.f (sym c.in-Some.ensures)) ∙ c.loop-nth.invariant

pub loop-nth-preserved : goal.loop-nth-preserved
loop-nth-preserved g c =
    let m = g.S.Surface.mesh c.args.mesh.now in
    found_past (has_corners_at m c.args.c.now) (faces_running m c.args.c.now.first c.args.c.now.second) c.loop-nth.nth (sym c.equal_nth.ensures ∙ c.in_default.is) ∙ c.loop-nth.invariant
