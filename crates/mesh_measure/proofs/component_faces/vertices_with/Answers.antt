use Rattle.std.proofs.Common.{◌≡◌, ◌∙◌, ap, subst}
use Rattle.std.specs.FinMap as finite
use Rattle.edit_base.specs.Classes.{class_of}
use Rattle.edit_base.proofs.Chains.{Has}
use Rattle.mesh_measure.specs.Components.{vertices_of}
use Rattle.mesh_measure.specs.Shape.{share_vertex}
use Rattle.mesh_measure.proofs.ComponentSteps.{class_live}
use Rattle.mesh_measure.proofs.component_faces.vertices_with.Goals as goal

pub vertices_of-requires : goal.vertices_of-requires
vertices_of-requires g c x has =
    let m = g.S.Surface.mesh c.args.mesh.now in
    let f = c.args.f in
    let is : c.as_slice.result.now ≡ class_of (share_vertex m) (finite.keys m.faces) f = c.as_slice.ensures.value ∙ c.in_ok-faces.ensures f c.requires.live c.requires.corner in
    class_live m f x (subst (λ l. Has l x) is has)
