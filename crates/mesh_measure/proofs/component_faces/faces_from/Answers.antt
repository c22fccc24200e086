use Rattle.std.proofs.Common.{ap, ◌∙◌}
use Rattle.std.specs.List.{flat_map}
use Rattle.mesh_base.specs.Sides.{faces_at}
use Rattle.edit_base.specs.Classes.{is_one_of}
use Rattle.mesh_measure.proofs.ComponentSteps.{class_is}
use Rattle.mesh_measure.proofs.component_faces.faces_from.Goals as goal

pub returns : goal.returns
returns g c f f_in f_at =
    let m = g.S.Surface.mesh c.args.mesh.now in
    class_is m f c.args.v f_in f_at c.in_ok-vertices.vertices c.put_in_order.new.near.items c.in_ok-vertices.ensures c.put_in_order.ensures.order
    (λ q. c.put_in_order.ensures.same q ∙ ap (λ l. is_one_of l q) (c.in_ok-faces.ensures ∙ ap (flat_map (faces_at m)) c.as_slice.ensures))
