use Rattle.std.proofs.Common.{◌≡◌, ◌≤◌, length, sym, subst, ◌∙◌}
use Rattle.std.specs.FinMap as finite
use Rattle.grid_base.specs.declared.TheConstants.{FACES_MAX}
use Rattle.edit_base.specs.Classes.{class_of}
use Rattle.edit_base.proofs.Chains.{Has}
use Rattle.mesh_measure.specs.Shape.{share_vertex}
use Rattle.mesh_measure.proofs.ComponentSteps.{class_few, class_live}
use Rattle.mesh_measure.proofs.measured.put_component.Goals as goal

pub component_of-requires-clause-few : goal.component_of-requires-clause-few
component_of-requires-clause-few g c =
    let m = g.S.Surface.mesh c.args.mesh.now in
    let f = c.args.f in
    let is : c.as_slice.result.now ≡ class_of (share_vertex m) (finite.keys m.faces) f = c.as_slice.ensures.value ∙ c.in_ok-faces.ensures f c.requires.live c.requires.corner in
    subst (λ l. length l ≤ FACES_MAX) (sym is) (class_few m (g.met.S.Surface.sound c.args.mesh.now) f)

pub component_of-requires-clause-live : goal.component_of-requires-clause-live
component_of-requires-clause-live g c x has =
    let m = g.S.Surface.mesh c.args.mesh.now in
    let f = c.args.f in
    let is : c.as_slice.result.now ≡ class_of (share_vertex m) (finite.keys m.faces) f = c.as_slice.ensures.value ∙ c.in_ok-faces.ensures f c.requires.live c.requires.corner in
    class_live m f x (subst (λ l. Has l x) is has)
