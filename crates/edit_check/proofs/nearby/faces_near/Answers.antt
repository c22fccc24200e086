use Rattle.std.proofs.Common.{◌≡◌, ap, subst, ◌∙◌}
use Rattle.std.specs.Prelude.{IfOk}
use Rattle.edit_check.specs.Boxed.{faces_in}
use Rattle.edit_check.specs.Nearby.{faces_among}
use Rattle.edit_check.proofs.nearby.faces_near.Goals as goal

pub returns : goal.returns
returns g c =
    let m = g.S.Surface.mesh c.args.paths.now.mesh.now in
    subst (λ l. IfOk c.faces_along.result (λ faces. faces_in faces ≡ l))
    (ap (faces_among m c.args.paths.now.moves.now) (c.as_slice.ensures.value ∙ c.in_ok-faces_near.ensures.ok)) c.faces_along.ensures
