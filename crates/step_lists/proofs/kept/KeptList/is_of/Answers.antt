use Rattle.std.proofs.Common.{◌≡◌, refl, sym, ◌∙◌}
use Rattle.std.specs.FinMap as finite
use Rattle.step_lists.proofs.OfMesh.{of_mesh}
use Rattle.step_lists.proofs.kept.KeptList.is_of.Goals as goal

pub returns : goal.returns
returns g c = λ same.
    let m = g.S.Surface.mesh c.args.mesh.now in
    let kept = c.args.self.now in
    let vertices : finite.keys m.points ≡ kept.vertices = sym c.in_ok-vertices.ensures ∙ sym c.as_slice.ensures ∙ c.if-not-are_same_vertices.ensures refl ∙ c.as_slice-2.ensures in
    let faces : finite.entries m.faces ≡ kept.faces = sym c.in_ok-faces.ensures ∙ sym c.as_slice-3.ensures ∙ c.are_same.ensures same ∙ c.as_slice-4.ensures in
    of_mesh m kept.list kept.vertices kept.faces vertices faces kept.made
