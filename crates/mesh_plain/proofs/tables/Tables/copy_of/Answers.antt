use Rattle.std.proofs.Common.{ap, ◌∙◌}
use Rattle.mesh_base.specs.Mesh.{Mesh}
use Rattle.mesh_plain.specs.Copying.{with_vertices_of, with_faces_of}
use Rattle.mesh_base.specs.Limits.{under}
use Rattle.mesh_shape.specs.Numbered.{numbered}
use Rattle.mesh_plain.proofs.Copies.{copied}
use Rattle.mesh_plain.proofs.tables.Tables.copy_of.Goals as goal

pub returns : goal.returns
returns g c =
    let m : Mesh = g.S.Surface.mesh c.args.mesh.now in
    let vertices = c.in_ok-put_vertices.ensures ∙ ap (with_vertices_of m) c.new-tables.ensures in
    let faces = c.in_ok-put_faces.ensures ∙ ap (with_faces_of m) vertices in
    let listed = c.number.ensures ∙ (λ i. numbered (faces i) (c.next_vertex.ensures i) (c.next_face.ensures i)) in
    c.allow.ensures
    ∙ (λ i. under (c.limits.ensures i) (listed i))
    ∙ copied m (g.met.S.Surface.sound c.args.mesh.now)
