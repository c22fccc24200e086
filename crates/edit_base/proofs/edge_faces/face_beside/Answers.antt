use Rattle.std.proofs.Common.{◌≡◌, Some, None, sym, ap, ◌∙◌, slice_get}
use Rattle.std.specs.Option.{option_map}
use Rattle.std.specs.FinMap as finite
use Rattle.mesh_base.specs.Sides.{faces_running}
use Rattle.mesh_base.specs.Changes.{corner_list}
use Rattle.edit_base.specs.Edges.{opposite_vertex, corners_at}
use Rattle.edit_base.proofs.FirstRunning.{found_running, found_corners, found_is_face}
use Rattle.edit_base.proofs.edge_faces.face_beside.Goals as goal

pub returns-in_err-corners-clause-some : goal.returns-in_err-corners-clause-some
returns-in_err-corners-clause-some g c =
    let m = g.S.Surface.mesh c.args.mesh.now in
    let found : slice_get (faces_running m c.args.u c.args.v) 0 ≡ Some c.in_ok-face.face = sym c.run_face.ensures ∙ c.in_ok-face.was in
    let none : option_map corner_list (finite.get m.faces c.in_ok-face.face) ≡ None = sym c.corners.ensures ∙ c.in_err-corners.was in
    absurd (found_is_face m c.args.u c.args.v c.in_ok-face.face found none)

pub returns-clause-corner : goal.returns-clause-corner
returns-clause-corner g c =
    let m = g.S.Surface.mesh c.args.mesh.now in
    let u = c.args.u in
    let v = c.args.v in
    let found : slice_get (faces_running m u v) 0 ≡ Some c.in_ok-face.face = sym c.run_face.ensures ∙ c.in_ok-face.was in
    let some : option_map corner_list (finite.get m.faces c.in_ok-face.face) ≡ Some c.in_ok-corners.corners = sym c.corners.ensures ∙ c.in_ok-corners.was in
    let there = ap (corners_at m) (found_running m u v c.in_ok-face.face found) ∙ found_corners m c.in_ok-face.face c.in_ok-corners.corners some in
    c.opposite_vertex.ensures v ∙ ap (λ k. opposite_vertex k u v) (c.of.ensures ∙ sym there)
