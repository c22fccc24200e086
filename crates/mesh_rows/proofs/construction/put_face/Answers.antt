use Rattle.std.proofs.Common.{sym, ap, subst, ◌∙◌}
use Rattle.mesh_base.specs.declared.ids.Corners.{Corners}
use Rattle.mesh_base.specs.Mesh.{Mesh}
use Rattle.mesh_base.specs.Changes.{corners_of, IsFresh}
use Rattle.mesh_shape.specs.Numbered.{numbered}
use Rattle.half_mesh.specs.Half.{mesh_in}
use Rattle.half_mesh.specs.States.{State}
use Rattle.mesh_rows.specs.declared.rows.FaceRow.{FaceRow}
use Rattle.mesh_rows.proofs.FreshRows.{fresh_row}
use Rattle.mesh_rows.proofs.construction.put_face.Goals as goal

pub add_face-requires : goal.add_face-requires
add_face-requires c =
    let m = mesh_in c.args.mesh.now in
    let row = c.args.row.now in
    let vertex = c.next_vertex-next_vertex.result in
    let id = c.row.inside.0.0.0 in
    let fresh = fresh_row c.args.next c.args.place m row vertex id (sym c.face_fault.ensures ∙ c.in_default.is) in
    let P : Corners → Type 0 = λ k. IsFresh (numbered m vertex id) k in
    let Q : Mesh → Type 0 = λ n. IsFresh n (corners_of c.list.result) in
    subst Q (sym (ap (λ (s : State). s.mesh) c.set_next.ensures.state)) (subst P (sym (ap corners_of c.list.ensures ∙ ap (λ (r : FaceRow). r.corners) c.row.view_is)) fresh)
