use Rattle.std.proofs.Common.{ap, ◌∙◌}
use Rattle.edit_base.specs.Classes.{is_one_of}
use Rattle.mesh_measure.proofs.ComponentSteps.{vertices_are}
use Rattle.mesh_measure.proofs.component_faces.vertices_of.Goals as goal

pub returns : goal.returns
returns g c =
    let m = g.S.Surface.mesh c.args.mesh.now in
    vertices_are m (g.met.S.Surface.sound c.args.mesh.now) c.args.faces.now c.requires c.put_in_order.new.near.items c.put_in_order.ensures.order
    (λ q. c.put_in_order.ensures.same q ∙ ap (λ l. is_one_of l q) c.in_ok-vertices.ensures)
