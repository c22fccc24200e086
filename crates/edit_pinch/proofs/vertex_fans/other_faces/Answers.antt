use Rattle.std.proofs.Common.{◌≡◌, map, subst, ◌∙◌}
use Rattle.std.specs.Prelude.{IfOk}
use Rattle.edit_pinch.specs.Parting.{cornered}
use Rattle.edit_pinch.proofs.vertex_fans.other_faces.Goals as goal

pub returns : goal.returns
returns g c =
    let m = g.S.Surface.mesh c.args.mesh.now in
    subst (λ xs. IfOk c.with_corners.result (λ all. all ≡ map (cornered m) xs)) (c.as_slice.ensures ∙ c.in_ok-rest.ensures) c.with_corners.ensures
